-- All theorems about the definitions, each as it is stated in specs/.
-- Assumes nothing.
use Rattle.meaning.specs.Laws.{LowestRight, RefusalsRise, HoldersRight, MeetsRight, SitesRight, LightsRight, PlansRight, DwellRight, SearchRight, IntervalsRight, HandoverRight, PicturesRight, DayRight}
use Rattle.meaning.specs.Refusals.{RefusalsSay, BytesRight, PlainRight}
use Rattle.meaning.specs.Demands.{Desk, Exact, meant_desk, Demand1, Demand2, Demand3}
use Rattle.meaning.proofs.AnswersLaws.{lowest_right, refusals_rise}
use Rattle.meaning.proofs.BytesLaws.{bytes_right}
use Rattle.meaning.proofs.RefusalLaws.{plain_right}
use Rattle.meaning.proofs.SiteRefusalLaws.{refusals_say}
use Rattle.meaning.proofs.HolderLaws.{holders_right}
use Rattle.meaning.proofs.RunLaws.{meets_right}
use Rattle.meaning.proofs.SiteLaws.{sites_right}
use Rattle.meaning.proofs.LightLaws.{lights_right}
use Rattle.meaning.proofs.PlanLaws.{plans_right}
use Rattle.meaning.proofs.DwellLaws.{dwell_right}
use Rattle.meaning.proofs.TraceLaws.{search_right}
use Rattle.meaning.proofs.IntervalLaws.{intervals_right}
use Rattle.meaning.proofs.HandoverLaws.{handover_right}
use Rattle.meaning.proofs.PictureLaws.{pictures_right}
use Rattle.meaning.proofs.DayPrintsLaws.{day_right}
use Rattle.meaning.proofs.DemandLaws.{exact_demand1, exact_demand2}
use Rattle.meaning.proofs.ListLaws.{exact_demand3}

-- ---- the laws of specs/Laws.antt and specs/Refusals.antt

pub record AllLaws : Type 0 where
  pub lowest : LowestRight
  pub rise : RefusalsRise
  pub say : RefusalsSay
  pub bytes : BytesRight
  pub plain : PlainRight
  pub holders : HoldersRight
  pub meets : MeetsRight
  pub sites : SitesRight
  pub lights : LightsRight
  pub plans : PlansRight
  pub dwell : DwellRight
  pub search : SearchRight
  pub intervals : IntervalsRight
  pub handover : HandoverRight
  pub pictures : PicturesRight
  pub day : DayRight

pub all_laws : AllLaws
all_laws = record {
  lowest = lowest_right;
  rise = refusals_rise;
  say = refusals_say;
  bytes = bytes_right;
  plain = plain_right;
  holders = holders_right;
  meets = meets_right;
  sites = sites_right;
  lights = lights_right;
  plans = plans_right;
  dwell = dwell_right;
  search = search_right;
  intervals = intervals_right;
  handover = handover_right;
  pictures = pictures_right;
  day = day_right;
}

-- ---- the demands of specs/Demands.antt

pub record AllDemands (desk : Desk) : Type 0 where
  pub first : Demand1 desk
  pub second : Demand2 desk
  pub third : Demand3 desk

-- of every desk whose answers are the definitions': what the code's contracts are used for
pub exact_demands : (desk : Desk) → Exact desk → AllDemands desk
exact_demands desk exact = record { first = exact_demand1 desk exact; second = exact_demand2 desk exact; third = exact_demand3 desk exact }

-- and so of the definitions' own desk
pub demands : AllDemands meant_desk
demands = exact_demands meant_desk (λ file l q d same. same)
