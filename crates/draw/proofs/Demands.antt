-- The demand on a draw call: of every exact desk, and so of draw itself, over what its contract promises and nothing else of the code.
-- `Learnt` and its arguments are those of crates/desk_board/proofs/ContractLaws.antt.
-- Assumes nothing.
use Prim.Native.Nat.{ℕ, zero, suc, ◌*◌, ◌-◌, ◌≤◌, ◌<◌}
use native.Mathlib.Omega.{arith}
use native.Mathlib.Nat.{mul-le-mul_left}
use mathlib.Core.Path.{◌≡◌, refl, sym, ap, ap₂, ◌∙◌, subst}
use mathlib.Core.Bool.{true, not}
use mathlib.Core.List.{List, [], ◌∷◌}
use lib.ListN.{length, get_or}
use borrow.Author.Tests.{le-ltb, ne_eqb}
use contract.Lifetimes.{Lfts}
use Rattle.std.specs.Prelude.{Result, Ok, Err}
use denote.Ref.{Bor}
use Rattle.meaning.specs.Limits.{last_frame}
use Rattle.meaning.specs.Basics.{Each}
use Rattle.meaning.specs.Answers.{lowest, accepted}
use Rattle.meaning.specs.Site.{Site, Centre, no_centre, centre_at, motion_at, site_of, read_site}
use Rattle.meaning.specs.Plan.{Step, wait, move}
use Rattle.meaning.specs.Light.{Light, light_of, is_light}
use Rattle.meaning.specs.Calls.{light_named}
use Rattle.meaning.specs.WellFormed.{CentreFits}
use Rattle.meaning.specs.Refusals.{Not, LightBytes, LightKnown}
use Rattle.meaning.specs.Pictures.{place_on, between, place_between, picture_from, picture_of, picture_refusals, draw_refusals, draw_meant}
use Rattle.meaning.proofs.AnswersLaws.{lowest_clear}
use Rattle.meaning.proofs.SiteLaws.{read_site_lem, sites_right}
use Rattle.meaning.proofs.RefusalLaws.{read_light, tells_light}
use Rattle.meaning.proofs.PictureLaws.{site_passed, draw_accepted, draw_refused, pictures_right}
use Rattle.draw_pictures.specs.declared.Picture.{Picture}
use Rattle.draw_pictures.specs.Floats.{float_place, shown}
use Rattle.draw_pictures.proofs.Theorems.{floats_right}
use Rattle.answers.specs.declared.Refusal.{Refusal}
use Rattle.answers.specs.Answers.{number_in, numbered, named}
use Rattle.answers.proofs.Laws.{named_back, numbered_named}
use Rattle.draw.specs.Drawn.{drawn_of}
use Rattle.draw.proofs.AnswerLaws.{drawn_known}
use Rattle.draw.specs.Demand.{DrawDesk, DrawExact, ExactlyAt, Exactly, DrawDemand}
use Rattle.draw.proofs.draw.Reads as draw_reads

-- ---- the floats of a picture are exact, since no coordinate is above 65,535

fits_at : (cs : List Centre) → Each CentreFits cs → (n : ℕ) → CentreFits (get_or cs n no_centre)
fits_at [] fit n = (omega arith, omega arith)
fits_at (c ∷ cs) (fit, later) zero = fit
fits_at (c ∷ cs) (fit, later) (suc n) = fits_at cs later n

small : (k old new : ℕ) → k ≤ 16 → old < 65536 → new < 65536 → between k old new ≤ 16 * 65535
small k old new hk ho hn =
    let j = last_frame - k in
    let x : j * old ≤ j * 65535 = mul-le-mul_left j (omega arith) in
    let y : k * new ≤ k * 65535 = mul-le-mul_left k (omega arith) in
    omega arith

on_exact : (c : Centre) → CentreFits c → ExactlyAt (float_place (place_on c)) (place_on c)
on_exact c (hx, hy) = (floats_right.value _ (omega arith), floats_right.value _ (omega arith))

between_exact : (k : ℕ) (a b : Centre) → k ≤ 16 → CentreFits a → CentreFits b → ExactlyAt (float_place (place_between k a b)) (place_between k a b)
between_exact k a b hk (ax, ay) (bx, by) =
    (floats_right.value _ (small k a.x b.x hk ax bx), floats_right.value _ (small k a.y b.y hk ay by))

module _ (site : Site) (fit : Each CentreFits site.centres) (k : ℕ) (hk : k ≤ 16) where
  cell_fits : (c : ℕ) → CentreFits (centre_at site c)
  cell_fits = fits_at site.centres fit

  shown_from : (s : ℕ) (ps : List Step) (i : ℕ) → Exactly (shown (picture_from site s ps i k)) (picture_from site s ps i k)
  shown_from s [] i = tt
  shown_from s (wait n ∷ ps) zero = on_exact _ (cell_fits _)
  shown_from s (move m ∷ ps) zero = (between_exact k _ _ hk (cell_fits _) (cell_fits _), floats_right.share k hk)
  shown_from s (wait n ∷ ps) (suc i) = shown_from s ps i
  shown_from s (move m ∷ ps) (suc i) = shown_from (motion_at site m).to ps i

  shown_exact : (x : Light) (i : ℕ) → Exactly (shown (picture_of site x i k)) (picture_of site x i k)
  unfolding picture_of
  shown_exact x i = shown_from x.start x.steps i

-- ---- of what is accepted, no refusal applies

module _ (file light : List ℕ) (site : Site) (x : Light) (read : read_site file ≡ accepted site) (bytes : LightBytes light x) where
  same_site : site_of file ≡ site
  same_site = (read_site_lem file site read).1

  lit : (is_light light ≡ true) × (light_of light ≡ x)
  lit = read_light light x bytes

  module _ (k : ℕ) (known : LightKnown site x) (hk : k ≤ 16) (some : Not (length site.centres ≡ 0)) where
    none_applies : lowest (draw_refusals file light k) ≡ 0
    unfolding picture_refusals
    none_applies =
        let named : light_named (site_of file) (light_of light) ≡ true = ap₂ light_named same_site lit.1 ∙ (tells_light site x).back known in
        let centred : Not (length (site_of file).centres ≡ 0) = λ e. some (sym (ap (λ (s : Site). length s.centres) same_site) ∙ e) in
        site_passed file light k (read ∙ ap accepted (sym same_site))
        ∙ lowest_clear _ (ap not lit.0, (ap not named, (simp (le-ltb last_frame k hk, ne_eqb _ _ centred), tt)))

    meant_picture : (i : ℕ) → draw_meant file light i k ≡ accepted (picture_of site x i k)
    meant_picture i = draw_accepted file light i k none_applies ∙ ap₂ (λ (s : Site) (y : Light). accepted (picture_of s y i k)) same_site lit.1

-- ---- an exact desk meets the demand

pub exact_demand : (desk : DrawDesk) → DrawExact desk → DrawDemand desk
exact_demand desk exact = record {
  drawn = λ file light i k d may whole site read x bytes known hk some. (
    shown (picture_of site x i k),
    picture_of site x i k,
    pictures_right.shown site x bytes.0.laid_out i k hk,
    shown_exact site (sites_right.only_those file site whole read).1 k hk x i,
    exact file light i k d may ∙ ap drawn_of (meant_picture file light site x read bytes k known hk some i),
  );
  refused = refused;
  only_drawn = λ file light i k d may q is. by_number file light i k d may q is _ refl;
}
  where
    refused : (file light : List ℕ) (i k : ℕ) (d : Result Picture ℕ) → desk file light i k d → (n : ℕ) → lowest (draw_refusals file light k) ≡ suc n → d ≡ Err (suc n)
    refused file light i k d may n e = exact file light i k d may ∙ ap drawn_of (draw_refused file light i k n e)

    by_number : (file light : List ℕ) (i k : ℕ) (d : Result Picture ℕ) → desk file light i k d → (q : Picture) → d ≡ Ok q
        → (n : ℕ) → lowest (draw_refusals file light k) ≡ n → lowest (draw_refusals file light k) ≡ 0
    by_number file light i k d may q is zero e = e
    by_number file light i k d may q is (suc n) e = absurd (let z = ap number_in (sym (refused file light i k d may n e) ∙ is) in omega arith)

-- ---- draw

-- `Draws file light step frame drawn`: the contract of draw allows this answer, read by its number
pub data Draws : List ℕ → List ℕ → ℕ → ℕ → Result Picture ℕ → Type 0 where
  draws : (κs : Lfts 2) (file light file' light' : Bor (List ℕ)) (step k step' k' : ℕ) (r : Result Picture Refusal)
      → draw_reads.Learnt κs (file, (light, (step, (k, tt)))) r (file', (light', (step', (k', tt)))) → Draws file.now light.now step k (numbered r)

pub draw_exact : DrawExact Draws
draw_exact file light i k d (Draws.draws κs f l f' l' step frame step' frame' r p) = p.0

-- so it draws the picture that the words say, or gives the lowest number that applies
pub draw_demand : DrawDemand Draws
draw_demand = exact_demand Draws draw_exact

-- and the answer itself is the one that is meant
pub draw_answers : (κs : Lfts 2) (file light file' light' : Bor (List ℕ)) (step k step' k' : ℕ) (r : Result Picture Refusal)
    → draw_reads.Learnt κs (file, (light, (step, (k, tt)))) r (file', (light', (step', (k', tt)))) → r ≡ named (drawn_of (draw_meant file.now light.now step k))
draw_answers κs file light file' light' step k step' k' r p = sym (named_back r) ∙ ap named p.0

-- the site file and the light are after the call as they were
pub unchanged : (κs : Lfts 2) (file light file' light' : Bor (List ℕ)) (step k step' k' : ℕ) (r : Result Picture Refusal)
    → draw_reads.Learnt κs (file, (light, (step, (k, tt)))) r (file', (light', (step', (k', tt)))) → (file'.now ≡ file.now) × (light'.now ≡ light.now)
unchanged κs file light file' light' step k step' k' r p = p.1

-- it asks nothing of its caller: `Asked` is what a contract requires
pub asks_nothing : (κs : Lfts 2) (file light : Bor (List ℕ)) (step k : ℕ) → draw_reads.Asked κs (file, (light, (step, (k, tt))))
asks_nothing κs file light step k = tt

-- and the claim is not empty
pub draw_can : (file light : List ℕ) (i k : ℕ) → Draws file light i k (drawn_of (draw_meant file light i k))
draw_can file light i k = subst (Draws file light i k) is may
  where
    lend : List ℕ → Bor (List ℕ)
    lend b = record { ref_ptr = (0, 0); now = b }

    answer : Result Picture Refusal
    answer = named (drawn_of (draw_meant file light i k))

    is : numbered answer ≡ drawn_of (draw_meant file light i k)
    is = numbered_named (drawn_of (draw_meant file light i k)) (drawn_known file light k i)

    may : Draws file light i k (numbered answer)
    may = Draws.draws ([], ([], tt)) (lend file) (lend light) (lend file) (lend light) i k i k answer (is, (refl, refl))
