-- What the lent areas hold changes no answer of a call of the script: their lengths alone count.
-- Assumes nothing.
use Prim.Native.Nat.{ℕ, zero, suc}
use native.Mathlib.Omega.{arith}
use mathlib.Core.Path.{◌≡◌, refl, sym, ap, ◌∙◌}
use mathlib.Core.List.{List, [], ◌∷◌, ◌++◌}
use mathlib.Core.Bool.{not}
use lib.Dec.{eqb}
use lib.ListN.{length, drop}
use lib.Seq.{take-append_seam}
use Rattle.meaning.specs.Answers.{◌if◌, lowest}
use Rattle.meaning.specs.Site.{Site, site_of, site_refusals}
use Rattle.meaning.specs.Board.{board_length}
use Rattle.meaning.specs.Plan.{Node}
use Rattle.meaning.specs.Light.{encode}
use Rattle.meaning.specs.Calls.{Call, route, audit, post, close, withdraw, listed, Room, bytes_view, call_refusals, Lent, lends, room_of, refusals, granted_light, Done, accepted_done, refused_done, done_by, meant}
use Rattle.meaning.specs.Day.{last_light}
use Rattle.meaning.proofs.BasicsLaws.{decide}
use Rattle.meaning.proofs.CallLaws.{done_board}

-- two calls answered alike: the numbers, the board, and the light that is the last granted one after the call
pub record Alike (x y : Done) : Type 0 where
  pub number : x.number ≡ y.number
  pub values : x.values ≡ y.values
  pub board : x.lent.board ≡ y.lent.board
  pub light : (old : List ℕ) → last_light old x.lent.out x.values ≡ last_light old y.lent.out y.values

module _ (file board out out' words words' : List ℕ) (same_out : length out ≡ length out') (same_words : length words ≡ length words') where
  abbrev site : Site
  site = site_of file

  rooms : room_of (lends board out words) ≡ room_of (lends board out' words')
  rooms = λ i. record { out = same_out i; words = same_words i }

  same_refusals : (c : Call) → refusals file (lends board out words) (listed c) ≡ refusals file (lends board out' words') (listed c)
  unfolding refusals
  same_refusals c =
      ap (λ (room : Room). site_refusals file ++ (7 if not (eqb (length board) (board_length site)) ∷ call_refusals site (bytes_view site board) room c)) rooms

  accepted_alike : (c : Call) → Alike (accepted_done site (lends board out words) (listed c)) (accepted_done site (lends board out' words') (listed c))
  unfolding accepted_done
  accepted_alike (route tug a goal dwell) =
      let light : List ℕ = encode (granted_light site (bytes_view site board) tug a goal dwell) in
      record {
        number = refl;
        values = refl;
        board = refl;
        light = λ old. take-append_seam light (drop (length light) out) ∙ sym (take-append_seam light (drop (length light) out'));
      }
  accepted_alike (audit light) = record { number = refl; values = refl; board = refl; light = λ old. refl }
  accepted_alike (post light) = record { number = refl; values = refl; board = refl; light = λ old. refl }
  accepted_alike (close h cell first last) = record { number = refl; values = refl; board = refl; light = λ old. refl }
  accepted_alike (withdraw h) = record { number = refl; values = refl; board = refl; light = λ old. refl }

  by_number : (c : Call) (n : ℕ) → Alike (done_by site (lends board out words) (listed c) n) (done_by site (lends board out' words') (listed c) n)
  unfolding refused_done
  by_number c zero = accepted_alike c
  by_number c (suc n) = record {
    number = refl;
    values = refl;
    board = done_board site (lends board out words) c (suc n) ∙ sym (done_board site (lends board out' words') c (suc n));
    light = λ old. refl;
  }

  pub areas_alike : (c : Call) → Alike (meant file (lends board out words) (listed c)) (meant file (lends board out' words') (listed c))
  unfolding meant
  areas_alike c = rw (ap lowest (same_refusals c)) (by_number c (lowest (refusals file (lends board out' words') (listed c))))

-- a route leaves the board, and one that grants no light the output area
module _ (l : Lent) (tug : ℕ) (a : Node) (goal dwell : ℕ) where
  by_board : (site : Site) (n : ℕ) → (done_by site l (listed (route tug a goal dwell)) n).lent.board ≡ l.board
  unfolding accepted_done
  by_board site zero = refl
  by_board site (suc n) = done_board site l (route tug a goal dwell) (suc n)

  by_out : (site : Site) (n : ℕ) → (done_by site l (listed (route tug a goal dwell)) n).values ≡ [] → (done_by site l (listed (route tug a goal dwell)) n).lent.out ≡ l.out
  unfolding accepted_done refused_done
  by_out site zero e = absurd (let z = ap length e in omega arith)
  by_out site (suc n) e = decide (eqb (suc n) 18) (λ q. simp q) (λ q. simp q)

  module _ (file : List ℕ) where
    pub route_board : (meant file l (listed (route tug a goal dwell))).lent.board ≡ l.board
    unfolding meant
    route_board = by_board (site_of file) (lowest (refusals file l (listed (route tug a goal dwell))))

    pub no_light : (meant file l (listed (route tug a goal dwell))).values ≡ [] → (meant file l (listed (route tug a goal dwell))).lent.out ≡ l.out
    unfolding meant
    no_light e = by_out (site_of file) (lowest (refusals file l (listed (route tug a goal dwell)))) e
