-- What the first end says of the route, and what the traced steps fit into.
-- Assumes nothing.
use Prim.Native.Nat.{ℕ, suc, ◌+◌, ◌-◌, ◌≤◌}
use native.Mathlib.Omega.{arith}
use mathlib.Core.Path.{◌≡◌, sym, ap, ◌∙◌}
use mathlib.Core.Bool.{Bool, cond, ◌&&◌, not, and-true}
use mathlib.Core.Option.{Option, none, some}
use mathlib.Core.List.{List, []}
use borrow.Author.Tests.{le-leb, lt-leb, leb-true, leb-false, lt-ltb, le-ltb}
use lib.Dec.{leb}
use Rattle.meaning.specs.Basics.{every, least, is_zero}
use Rattle.meaning.specs.Site.{Site}
use Rattle.meaning.specs.Board.{Free}
use Rattle.meaning.specs.Plan.{Node, node, can_unload}
use Rattle.meaning.specs.WellFormed.{WellFormed}
use Rattle.meaning.specs.Reach.{rows_to, trace, Route, ends_after, traced_route, route_in, find_route}
use Rattle.meaning.proofs.BasicsLaws.{decide}
use Rattle.meaning.proofs.ReachLaws.{word_row}
use Rattle.site.specs.declared.hall.Hall.{Hall}
use Rattle.site.specs.Halls.{site_in, free_in}
use Rattle.search_ends.specs.Ends.{ends_on, First}
use Rattle.search_ends.proofs.FirstLaws.{least_first}
use Rattle.search_back.specs.Words.{ReachedTo}
use Rattle.search_trace.specs.Turns.{Found}

-- the ticks after the start at which the table up to n ticks after it first has the goal, where the tug can unload
abbrev pub arrival_in : Site → Free → Node → ℕ → ℕ → ℕ → Option ℕ
arrival_in site f a n goal dwell = least (ends_after site f (rows_to site f a n) n a goal dwell) 0 (suc n)

-- the route that arrives j ticks after the start
abbrev pub route_after : Site → Free → Node → ℕ → ℕ → Route
route_after site f a goal j =
    record {
      steps = trace site (rows_to site f a (site.horizon - a.tick)) (site.horizon - a.tick) (suc j) j goal [];
      arrival = a.tick + j;
    }

module _ (site : Site) (f : Free) (start tick goal dwell horizon r : ℕ) (well : WellFormed site) (same : site.horizon ≡ horizon) (early : tick ≤ horizon)
    (first : First (ends_on site f (node start tick) goal dwell) tick (horizon + 1) r) where
  -- the ticks of the table, and its test
  abbrev n : ℕ
  n = horizon - tick

  abbrev test : ℕ → Bool
  test = ends_after site f (rows_to site f (node start tick) n) n (node start tick) goal dwell

  -- an end at a tick is an end of the table, counted from the start
  ends_same : (j : ℕ) → j ≤ n → ends_on site f (node start tick) goal dwell (tick + j) ≡ test j
  unfolding every
  ends_same j le =
      let since : tick + j - tick ≡ j = omega arith in
      rw (le-leb tick (tick + j) (omega arith), since, and-true (can_unload site f (node goal (tick + j)) dwell))
      (ap (λ (w : ℕ). not (is_zero w) && can_unload site f (node goal (tick + j)) dwell) (sym (word_row site well f (node start tick) n j goal le)))

  first_in : First test 0 (0 + suc n) (r - tick)
  first_in =
      let above = first.above in
      let within = first.within in
      record {
        above = omega arith;
        within = omega arith;
        none = λ j lo hi. sym (ends_same j (omega arith)) ∙ first.none (tick + j) (omega arith) (omega arith);
        hit = λ lt.
            let there : tick + (r - tick) ≡ r = omega arith in
            sym (ends_same (r - tick) (omega arith)) ∙ ap (ends_on site f (node start tick) goal dwell) there ∙ first.hit (omega arith);
      }

  pub first_arrival : arrival_in site f (node start tick) (horizon - tick) goal dwell ≡ cond (leb r horizon) (some (r - tick)) none
  first_arrival =
      let above = first.above in
      least_first test 0 (suc n) (r - tick) first_in
      ∙ decide (leb r horizon)
      (λ h. rw (h, lt-ltb (r - tick) (0 + suc n) (omega (arith, leb-true r horizon h))))
      (λ h. rw (h, le-ltb (r - tick) (0 + suc n) (omega (arith, leb-false r horizon h))))

  -- the route is the one that is traced from that arrival
  route_of : (o : Option ℕ) → arrival_in site f (node start tick) (horizon - tick) goal dwell ≡ o
      → find_route site f (node start tick) goal dwell ≡ traced_route site (rows_to site f (node start tick) (horizon - tick)) (horizon - tick) (node start tick) goal o
  unfolding find_route route_in
  route_of o e =
      ap (λ (h : ℕ). route_in site f (rows_to site f (node start tick) (h - tick)) (h - tick) (node start tick) goal dwell) same
      ∙ ap (traced_route site (rows_to site f (node start tick) (horizon - tick)) (horizon - tick) (node start tick) goal) e

  pub route_there : r ≤ horizon → find_route site f (node start tick) goal dwell ≡ some (route_after site f (node start tick) goal (r - tick))
  unfolding traced_route
  route_there h =
      route_of (some (r - tick)) (first_arrival ∙ ap (λ (b : Bool). cond b (some (r - tick)) none) (le-leb r horizon h))
      ∙ ap (λ (h : ℕ). some (record { steps = trace site (rows_to site f (node start tick) (h - tick)) (h - tick) (suc (r - tick)) (r - tick) goal []; arrival = tick + (r - tick) })) (sym same)

  pub route_nowhere : suc horizon ≤ r → find_route site f (node start tick) goal dwell ≡ none
  unfolding traced_route
  route_nowhere h = route_of none (first_arrival ∙ ap (λ (b : Bool). cond b (some (r - tick)) none) (lt-leb r horizon h))

-- ---- what `trace_back` requires

pub arrival_found : (hall : Hall) (re : List ℕ) (start tick goal dwell horizon r : ℕ) → WellFormed (site_in hall) → (site_in hall).horizon ≡ horizon → tick ≤ horizon
    → First (ends_on (site_in hall) (free_in hall) (node start tick) goal dwell) tick (horizon + 1) r → r ≤ horizon
    → ReachedTo (site_in hall) (free_in hall) (node start tick) r re
    → Found (record { start = start; dwell = dwell; route = route_after (site_in hall) (free_in hall) (node start tick) goal (r - tick) }) hall re tick goal r
arrival_found hall re start tick goal dwell horizon r well same early first in_time rows =
    let late = first.above in
    record {
      reached = rows;
      found = route_there (site_in hall) (free_in hall) start tick goal dwell horizon r well same early first in_time;
      on_tick = omega arith;
    }
