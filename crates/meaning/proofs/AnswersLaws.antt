-- Laws of the lowest number that applies, and that every call's numbers rise.
-- Assumes nothing.
use Prim.Native.Nat.{ℕ, zero, suc, ◌≤◌, ◌<◌}
use native.Mathlib.Omega.{arith}
use mathlib.Core.Path.{◌≡◌, refl, sym, ◌∙◌}
use mathlib.Core.Bool.{true, false}
use mathlib.Core.List.{List, [], ◌∷◌, ◌++◌}
use lib.Dec.{leb}
use borrow.Author.Tests.{leb-true}
use Rattle.meaning.specs.Basics.{all, Each, Some, here, there}
use Rattle.meaning.specs.Answers.{Refusal, lowest, RiseFrom, accepted, answer}
use Rattle.meaning.specs.Site.{Site, site_refusals}
use Rattle.meaning.specs.Calls.{Call, route, audit, post, close, withdraw, PublicCall, opening, interval, listed, View, bytes_view, Room, Lent, room_of, route_refusals, light_refusals, close_refusals, withdraw_refusals, call_refusals, interval_refusals, travel_refusals, later_refusals, refusals}
use Rattle.meaning.specs.Pictures.{picture_refusals, draw_refusals}
use Rattle.meaning.specs.Laws.{LowestRight, RefusalsRise}
use Rattle.meaning.proofs.BasicsLaws.{decide, all_head, all_tail, each_map}

-- it does not apply
abbrev pub Passed : Refusal → Type 0
Passed r = r.applies ≡ false

-- ---- the first of the list

pub lowest_hit : (r : Refusal) (rs : List Refusal) → r.applies ≡ true → lowest (r ∷ rs) ≡ r.number
unfolding lowest
lowest_hit r rs e = simp e

pub lowest_miss : (r : Refusal) (rs : List Refusal) → r.applies ≡ false → lowest (r ∷ rs) ≡ lowest rs
unfolding lowest
lowest_miss r rs e = simp e

-- ---- none applies

pub lowest_clear : (rs : List Refusal) → Each Passed rs → lowest rs ≡ 0
unfolding lowest
lowest_clear [] h = refl
lowest_clear (r ∷ rs) (e, h) = simp e (lowest_clear rs h)

pub rise_none : (n : ℕ) (rs : List Refusal) → RiseFrom n rs → lowest rs ≡ 0 → Each Passed rs
rise_none n [] rise e = tt
rise_none n (r ∷ rs) (lt, rise) e =
    decide r.applies
    (λ q. let z : r.number ≡ 0 = sym (lowest_hit r rs q) ∙ e in absurd (omega arith))
    (λ q. (q, rise_none r.number rs rise (sym (lowest_miss r rs q) ∙ e)))

pub lowest_none : (rs : List Refusal) → RiseFrom 0 rs → lowest rs ≡ 0 → Each Passed rs
lowest_none rs rise e = rise_none 0 rs rise e

-- ---- one applies

-- then those before it do not
rise_above : (n : ℕ) (rs : List Refusal) → RiseFrom n rs → Each (λ (r : Refusal). n < r.number) rs
rise_above n [] rise = tt
rise_above n (r ∷ rs) (lt, rise) =
    (lt, each_map (λ (x : Refusal). r.number < x.number) (λ (x : Refusal). n < x.number) (λ x more. omega arith) rs (rise_above r.number rs rise))

pub rise_before : (n : ℕ) (rs : List Refusal) → RiseFrom n rs → (k : ℕ) → lowest rs ≡ k → Each (λ (r : Refusal). r.number < k → r.applies ≡ false) rs
rise_before n [] rise k e = tt
rise_before n (r ∷ rs) (lt, rise) k e =
    decide r.applies
    (λ q.
    let same : r.number ≡ k = sym (lowest_hit r rs q) ∙ e in (
      λ below. absurd (omega arith),
      each_map (λ (x : Refusal). r.number < x.number) (λ (x : Refusal). x.number < k → x.applies ≡ false)
          (λ x above below. absurd (omega arith)) rs (rise_above r.number rs rise),
    ))
    (λ q. (λ below. q, rise_before r.number rs rise k (sym (lowest_miss r rs q) ∙ e)))

-- and it is one of the list
lowest_applies : (rs : List Refusal) (n : ℕ) → lowest rs ≡ suc n → Some (λ (r : Refusal). (r.number ≡ suc n) × (r.applies ≡ true)) rs
lowest_applies [] n e = absurd (let none = lowest_clear [] tt in omega arith)
lowest_applies (r ∷ rs) n e =
    decide r.applies
    (λ q. here (sym (lowest_hit r rs q) ∙ e, q))
    (λ q. there (lowest_applies rs n (sym (lowest_miss r rs q) ∙ e)))

pub lowest_right : LowestRight
lowest_right = record {
  none = lowest_none;
  all_none = lowest_clear;
  applies = lowest_applies;
  no_lower = λ rs rise. rise_before 0 rs rise (lowest rs) refl;
}

-- and the number is at most the largest
pub lowest_most : (m : ℕ) (rs : List Refusal) → all (λ (r : Refusal). leb r.number m) rs ≡ true → lowest rs ≤ m
lowest_most m [] h = rw (lowest_clear [] tt) (omega arith)
lowest_most m (r ∷ rs) h =
    decide r.applies
    (λ q. rw (lowest_hit r rs q) (leb-true _ _ (all_head (λ (x : Refusal). leb x.number m) r rs h)))
    (λ q. rw (lowest_miss r rs q) (lowest_most m rs (all_tail (λ (x : Refusal). leb x.number m) r rs h)))

-- ---- one list after another

pub lowest_append : (xs ys : List Refusal) → Each Passed xs → lowest (xs ++ ys) ≡ lowest ys
lowest_append [] ys h = refl
lowest_append (x ∷ xs) ys (e, h) = lowest_miss x (xs ++ ys) e ∙ lowest_append xs ys h

-- or the first of them answers
pub lowest_front : (xs ys : List Refusal) (n : ℕ) → lowest xs ≡ n → 1 ≤ n → lowest (xs ++ ys) ≡ n
lowest_front [] ys n e some = absurd (let z : lowest [] ≡ 0 = lowest_clear [] tt in omega arith)
lowest_front (x ∷ xs) ys n e some =
    decide x.applies
    (λ q. lowest_hit x (xs ++ ys) q ∙ sym (lowest_hit x xs q) ∙ e)
    (λ q. lowest_miss x (xs ++ ys) q ∙ lowest_front xs ys n (sym (lowest_miss x xs q) ∙ e) some)

-- ---- what a reader answers

pub answer_accepted : {A : Type 0} (a x : A) (n : ℕ) → answer a n ≡ accepted x → (n ≡ 0) × (a ≡ x)
unfolding answer
answer_accepted a x zero e = (refl, cc)
answer_accepted a x (suc n) e = absurd (let z : ◌≡◌ {A = ℕ} 0 1 = cc in omega arith)

pub accepted_answer : {A : Type 0} (a : A) (n : ℕ) → n ≡ 0 → answer a n ≡ accepted a
unfolding answer
accepted_answer a n e = rw e

-- ---- the numbers rise

pub call_rise : (site : Site) (v : View) (room : Room) (c : Call) → RiseFrom 7 (call_refusals site v room c)
unfolding route_refusals light_refusals close_refusals withdraw_refusals
call_rise site v room (route tug a goal dwell) = (omega arith, (omega arith, (omega arith, (omega arith, (omega arith, (omega arith, tt))))))
call_rise site v room (audit light) = (omega arith, (omega arith, (omega arith, (omega arith, (omega arith, (omega arith, (omega arith, (omega arith, tt))))))))
call_rise site v room (post light) = (omega arith, (omega arith, (omega arith, (omega arith, (omega arith, (omega arith, (omega arith, (omega arith, tt))))))))
call_rise site v room (close h cell first last) = (omega arith, (omega arith, (omega arith, (omega arith, (omega arith, tt)))))
call_rise site v room (withdraw h) = (omega arith, (omega arith, (omega arith, tt)))

pub later_rise : (site : Site) (l : Lent) (q : PublicCall) → RiseFrom 7 (later_refusals site l q)
unfolding interval_refusals
later_rise site l opening = tt
later_rise site l (interval cell) = (omega arith, (omega arith, tt))
later_rise site l (listed c) = call_rise site (bytes_view site l.board) (room_of l) c

pub site_rise : (file : List ℕ) → RiseFrom 0 (site_refusals file)
unfolding site_refusals
site_rise file = (omega arith, (omega arith, (omega arith, (omega arith, (omega arith, (omega arith, tt))))))

pub all_rise : (file : List ℕ) (l : Lent) (q : PublicCall) → RiseFrom 0 (refusals file l q)
unfolding refusals site_refusals
all_rise file l q = (omega arith, (omega arith, (omega arith, (omega arith, (omega arith, (omega arith, (omega arith, later_rise _ l q)))))))

draw_rises : (file light : List ℕ) (k : ℕ) → RiseFrom 0 (draw_refusals file light k)
unfolding draw_refusals site_refusals picture_refusals
draw_rises file light k = (omega arith, (omega arith, (omega arith, (omega arith, (omega arith, (omega arith, (omega arith, (omega arith, (omega arith, tt)))))))))

travel_rises : (d : ℕ) → RiseFrom 0 (travel_refusals d)
unfolding travel_refusals
travel_rises d = (omega arith, tt)

pub refusals_rise : RefusalsRise
refusals_rise = record { rise = all_rise; travel = travel_rises; draw = draw_rises }
