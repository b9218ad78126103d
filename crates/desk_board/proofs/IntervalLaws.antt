-- Laws of interval: its count and the area, of a call whose checks passed, and the number of one that its own checks refuse.
-- Assumes nothing.
use Prim.Native.Nat.{ℕ, ◌+◌, ◌≤◌, ◌<◌}
use native.Mathlib.Omega.{arith}
use mathlib.Core.Path.{◌≡◌, refl, sym, ap, ◌∙◌}
use mathlib.Core.Bool.{Bool}
use mathlib.Core.List.{List, [], ◌∷◌}
use lib.ListN.{length}
use Rattle.std.specs.Prelude.{Result, Ok, Err, IsErr, IsErrAnd}
use Rattle.meaning.specs.Answers.{lowest}
use Rattle.meaning.specs.Site.{Site, site_of}
use Rattle.meaning.specs.Board.{free}
use Rattle.meaning.specs.Intervals.{Interval, intervals, numbers_of}
use Rattle.meaning.specs.Calls.{opening, interval, interval_refusals, Room, Lent, lends, on_board, room_of, over, refusals, Done, accepted_done, meant}
use Rattle.board_intervals.proofs.Laws.{fits}
use Rattle.site.specs.Check.{sizes_of}
use Rattle.site.specs.Halls.{site_in, free_in}
use Rattle.site.specs.declared.hall.Hall.{Hall}
use Rattle.checks.proofs.Laws.{later_in}
use Rattle.checks.proofs.Passed.{ready_short}
use Rattle.checks_board.proofs.Laws.{ready_horizon, interval_cell, interval_room}
use Rattle.answers.specs.declared.Refusal.{Refusal}
use Rattle.answers.specs.Answers.{number, counted_values}
use Rattle.answers.proofs.Laws.{accepted_number, accepted_meant}

-- a refusal that is passed on has no count beside it
pub no_count : (result : Result ℕ Refusal) (r : Refusal) → IsErr result × IsErrAnd result (λ s. s ≡ r) → counted_values result ≡ []
no_count (Ok n) r (err, same) = absurd same
no_count (Err s) r (err, same) = refl

module _ (file board out : List ℕ) (cell : ℕ) (hall : Hall) (made : (hall.file.bytes.now ≡ file) × (hall.board.now ≡ board)) (first : 0 ≡ lowest (refusals file (on_board board) opening)) where
  abbrev lent : Lent
  lent = lends board out []

  -- what the later checks say of their number n
  abbrev Says : ℕ → Type 0
  Says n = (site : Site) (areas : Room) → hall.sizes ≡ sizes_of site → areas.out ≡ length out → n ≡ lowest (interval_refusals site areas cell)

  all_checks : (n : ℕ) → Says n → n ≡ lowest (refusals file lent (interval cell))
  all_checks n says = says (site_in hall) (room_of lent) hall.ready.sizes refl ∙ sym (later_in file lent (interval cell) hall made first)

  pub interval_refused : (r : Refusal) → Says (number r) → number r ≡ lowest (refusals file lent (interval cell))
  interval_refused r = all_checks (number r)

  -- ---- accepted

  module _ (says : Says 0) where
    none : 0 ≡ lowest (refusals file lent (interval cell))
    none = all_checks 0 says

    pub interval_accepted : 0 ≡ (meant file lent (interval cell)).number
    interval_accepted = accepted_number file lent (interval cell) none

    pub cell_in : cell < (site_in hall).cells
    cell_in = rw (made.0) (interval_cell file board out cell (sym none))

    -- the ticks of the cell that the work reads, up to the horizon h
    module _ (good : ℕ → Bool) (h : ℕ) (frees : good ≡ free_in hall cell) (same : h ≡ (site_in hall).horizon) where
      pub interval_fits : h + 2 ≤ length out
      interval_fits =
          let room : (site_in hall).horizon + 2 ≤ length out = rw (made.0) (interval_room file board out cell (sym none)) in
          omega arith

      found : intervals good h ≡ intervals (free (site_of file) board cell) (site_of file).horizon
      found = rw (frees, same, ← made.0, ← made.1) refl

      module _ (n : ℕ) (counted : n ≡ length (intervals good h)) where
        -- few enough for 16 bits
        pub interval_few : n < 65536
        interval_few =
            let short = ready_short hall.ready in
            let horizon = ready_horizon hall.ready in
            omega (arith, fits good h)

        pub interval_counted : n ∷ [] ≡ (meant file lent (interval cell)).values
        unfolding accepted_done
        interval_counted = ap (λ (k : ℕ). k ∷ []) (counted ∙ ap length found) ∙ ap (λ (d : Done). d.values) (accepted_meant file lent (interval cell) none)

      pub interval_left : (end : List ℕ) → end ≡ over (numbers_of (intervals good h)) out → end ≡ (meant file lent (interval cell)).lent.out
      unfolding accepted_done
      interval_left end writes =
          writes
          ∙ ap (λ (is : List Interval). over (numbers_of is) out) found
          ∙ ap (λ (d : Done). d.lent.out) (accepted_meant file lent (interval cell) none)
