-- Laws of a call of the day: what a call of dispatch answers and leaves is what is meant of the day's.
-- Assumes nothing.
use Prim.Native.Nat.{ℕ, ◌≤◌}
use mathlib.Core.Path.{◌≡◌, refl, sym, ap, ap₂, ◌∙◌}
use mathlib.Core.List.{List, []}
use Rattle.std.specs.Prelude.{Result, Ok, Err}
use lib.ListN.{length, take, replicate, length-replicate}
use Rattle.meaning.specs.Limits.{day_area, day_words}
use Rattle.meaning.specs.Calls.{Call, listed, route, Lent, on_board, lends, Done, meant}
use Rattle.meaning.specs.Day.{Day, day_done, arrival_of, last_light, day_after}
use Rattle.meaning.proofs.AreaLaws.{BoardCall, board_alone}
use Rattle.answers.specs.declared.Refusal.{Refusal}
use Rattle.answers.specs.declared.Granted.{Granted}
use Rattle.answers.specs.Answers.{number_of, granted_values}
use Rattle.day_results.specs.declared.CallResult.{CallResult}
use Rattle.day_results.specs.Results.{changed_result, routed_result}
use Rattle.day_calls.specs.Performed.{day_at, Performed}
use Rattle.day_calls.proofs.AreaLaws.{Alike, areas_alike, route_board, no_light}

-- a call of the day is one among areas of zeros
day_done_lem : (file : List ℕ) (d : Day) (c : Call) → day_done file d c ≡ meant file (lends d.board (replicate day_area 0) (replicate day_words 0)) (listed c)
unfolding day_done
day_done_lem file d c = refl

-- ---- a call that is lent the board alone

module _ (file board out : List ℕ) (light : ℕ) (c : Call) (b : BoardCall (listed c)) where
  abbrev alone : Done
  alone = meant file (on_board board) (listed c)

  board_performed : (zeros words left : List ℕ) (x : Done) (a : Result Unit Refusal) (r : CallResult) → x ≡ meant file (lends board zeros words) (listed c)
      → number_of a ≡ alone.number → left ≡ alone.lent.board → r ≡ changed_result a light
      → (r.number ≡ x.number) × ((r.arrival ≡ arrival_of x.values) × (day_at left out r.light ≡ day_after (day_at board out light) x))
  board_performed zeros words left x a r e p q t =
      let same : x ≡ record { number = alone.number; values = []; lent = lends alone.lent.board zeros words } = e ∙ board_alone file board zeros words (listed c) b in (
        ap (λ (k : CallResult). k.number) t ∙ p ∙ sym (ap (λ (d : Done). d.number) same),
        (
          ap (λ (k : CallResult). k.arrival) t ∙ sym (ap (λ (d : Done). arrival_of d.values) same),
          ap₂ (λ (l : List ℕ) (n : ℕ). day_at l out n) q (ap (λ (k : CallResult). k.light) t) ∙ sym (ap (day_after (day_at board out light)) same),
        ),
      )

  pub changed_performed : (k : Call) (left : List ℕ) (a : Result Unit Refusal) (r : CallResult) → k ≡ c → number_of a ≡ alone.number → left ≡ alone.lent.board → r ≡ changed_result a light
      → light ≤ day_area → Performed file (day_at board out light) k r (day_at left out r.light) × (r.light ≤ day_area)
  changed_performed k left a r e p q t few =
      let (number, (arrival, day)) = board_performed (replicate day_area 0) (replicate day_words 0) left _ a r (day_done_lem file (day_at board out light) c) p q t in
      (rw e (record { number = number; arrival = arrival; day = day }), rw (ap (λ (x : CallResult). x.light) t) few)

-- ---- a route

module _ (file board out words : List ℕ) (light tug start tick goal dwell : ℕ) (sized : length out ≡ day_area) (worded : length words ≡ day_words) where
  abbrev call : Call
  call = route tug (record { state = start; tick = tick }) goal dwell

  abbrev lent : Lent
  lent = lends board out words

  abbrev is : Done
  is = meant file lent (listed call)

  abbrev d : Day
  d = day_at board out light

  -- what the areas hold does not count
  alike : Alike is (day_done file d call)
  alike =
      rw (day_done_lem file d call)
      (areas_alike file board out (replicate day_area 0) words (replicate day_words 0) (sized ∙ sym (length-replicate {A = ℕ} day_area 0)) (worded ∙ sym (length-replicate {A = ℕ} day_words 0)) call)

  -- the board and the light of the day after
  same_board : board ≡ (day_done file d call).lent.board
  same_board = sym (route_board lent tug (record { state = start; tick = tick }) goal dwell file) ∙ alike.board

  module _ (g : Result Granted Refusal) (left : List ℕ) (numbered : number_of g ≡ is.number) (values : granted_values g ≡ is.values) (written : left ≡ is.lent.out) where
    number : number_of g ≡ (day_done file d call).number
    number = numbered ∙ alike.number

    arrival : arrival_of (granted_values g) ≡ arrival_of (day_done file d call).values
    arrival = ap arrival_of (values ∙ alike.values)

    last_light_lem : last_light d.light left (granted_values g) ≡ last_light d.light (day_done file d call).lent.out (day_done file d call).values
    last_light_lem = ap₂ (last_light d.light) written values ∙ alike.light d.light

  result_number : (g : Result Granted Refusal) → (routed_result g light).number ≡ number_of g
  result_number (Ok light) = refl
  result_number (Err r) = refl

  result_arrival : (g : Result Granted Refusal) → (routed_result g light).arrival ≡ arrival_of (granted_values g)
  result_arrival (Ok light) = refl
  result_arrival (Err r) = refl

  -- a refused route left the output area, and in it the last light
  result_light : (g : Result Granted Refusal) (left : List ℕ) → (granted_values g ≡ [] → left ≡ out) → take (routed_result g light).light left ≡ last_light d.light left (granted_values g)
  result_light (Ok x) left kept = refl
  result_light (Err r) left kept = ap (take light) (kept refl)

  pub routed_performed : (k : Call) (g : Result Granted Refusal) (left : List ℕ) (r : CallResult) → k ≡ call → number_of g ≡ is.number → granted_values g ≡ is.values → left ≡ is.lent.out → r ≡ routed_result g light
      → Performed file d k r (day_at board left r.light)
  routed_performed k g left r e p v q t =
      let kept : granted_values g ≡ [] → left ≡ out = λ z. q ∙ no_light lent tug (record { state = start; tick = tick }) goal dwell file (sym v ∙ z) in
      rw (e, t)
      (record {
        number = result_number g ∙ number g left p v q;
        arrival = result_arrival g ∙ arrival g left p v q;
        day = ap₂ (λ (b l : List ℕ). record { board = b; light = l }) same_board (result_light g left kept ∙ last_light_lem g left p v q);
      })
