-- Laws of the words: what a caller reads back from a call's word is the number and the values that are meant.
-- Assumes nothing.
use Prim.Native.Nat.{ℕ, zero, suc, ◌+◌, ◌*◌, ◌/◌, ◌%◌, ◌≤◌, ◌<◌}
use native.Mathlib.Omega.{arith}
use mathlib.Core.Path.{◌≡◌, refl, ap, ap₂, ◌∙◌}
use mathlib.Core.Bool.{true}
use mathlib.Core.Option.{Option}
use mathlib.Core.List.{List, [], ◌∷◌}
use lib.Arith.{digits_mod}
use lib.Dec.{leb}
use lib.ListN.{length}
use Rattle.meaning.specs.Basics.{all}
use Rattle.meaning.specs.Answers.{Refusal, lowest}
use Rattle.meaning.specs.Site.{Site, site_of, site_refusals}
use Rattle.meaning.specs.Board.{free}
use Rattle.meaning.specs.Plan.{Node}
use Rattle.meaning.specs.Reach.{Route}
use Rattle.meaning.specs.Light.{Light, encode}
use Rattle.meaning.specs.WellFormed.{WellFormed}
use Rattle.meaning.specs.Calls.{PublicCall, opening, interval, listed, route, audit, post, close, withdraw, Lent, bytes_view, light_room, route_refusals, light_refusals, close_refusals, withdraw_refusals, interval_refusals, refusals, route_found, granted_light, accepted_done, refused_done, meant}
use Rattle.meaning.proofs.AnswersLaws.{lowest_most}
use Rattle.meaning.proofs.SiteLaws.{read_well}
use Rattle.meaning.proofs.CallLaws.{meant_number, meant_by, accepted_parts, parts_read, granted_found}
use Rattle.meaning.proofs.Theorems.{all_laws}
use Rattle.answers.specs.Answers.{counted_of, granted_of}
use Rattle.answers_c.specs.Words.{counted_word, granted_word, word_number, beside, counted_in, granted_in}

-- ---- numbers

-- a number fits the low 8 bits
small_back : (n : ℕ) → n ≤ 18 → word_number n ≡ n
small_back n most = omega arith

-- and no value stands beside a refusal's
refused_back : (n : ℕ) (values : List ℕ) → suc n ≤ 18 → (word_number (suc n) ≡ suc n) × (beside (word_number (suc n)) values ≡ [])
refused_back n values most = (small_back (suc n) most, ap (λ (m : ℕ). beside m values) (small_back (suc n) most))

pub counted_back : (n : ℕ) → (word_number (n * 256) ≡ 0) × (counted_in (n * 256) ≡ n ∷ [])
counted_back n =
    let number : n * 256 % 256 ≡ 0 = omega arith in
    let count : n * 256 / 256 ≡ n = omega arith in
    (number, ap₂ (λ (m k : ℕ). beside m (k ∷ [])) number count)

-- the length has 24 bits
granted_back : (len arrival : ℕ) → len < 16777216
    → (word_number (len * 256 + arrival * 4294967296) ≡ 0) × (granted_in (len * 256 + arrival * 4294967296) ≡ len ∷ arrival ∷ [])
granted_back len arrival short =
    let word : ℕ = len * 256 + arrival * 4294967296 in
    let number : word % 256 ≡ 0 = omega arith in
    let high : word / 256 ≡ arrival * 16777216 + len = omega arith in
    let same_length : word / 256 % 16777216 ≡ len = ap (λ (n : ℕ). n % 16777216) high ∙ digits_mod arrival short in
    let same_arrival : word / 4294967296 ≡ arrival = omega arith in
    (number, ap₂ beside number (ap₂ (λ (n t : ℕ). n ∷ t ∷ []) same_length same_arrival))

-- ---- calls

-- the last number is 18
number_most : (file : List ℕ) (l : Lent) (q : PublicCall) → lowest (refusals file l q) ≤ 18
unfolding all refusals site_refusals route_refusals light_refusals close_refusals withdraw_refusals interval_refusals
number_most file l q = lowest_most 18 (refusals file l q) (each q)
  where
    each : (k : PublicCall) → all (λ (r : Refusal). leb r.number 18) (refusals file l k) ≡ true
    each opening = refl
    each (interval cell) = refl
    each (listed (route tug a goal dwell)) = refl
    each (listed (audit light)) = refl
    each (listed (post light)) = refl
    each (listed (close h cell first last)) = refl
    each (listed (withdraw h)) = refl

-- a call that returns its number alone
pub number_back : (file : List ℕ) (l : Lent) (q : PublicCall) (w : ℕ) → w ≡ (meant file l q).number → word_number w ≡ (meant file l q).number
number_back file l q w same =
    ap word_number same ∙ small_back (meant file l q).number (rw (meant_number file l q) (number_most file l q))

-- the word of an interval call
pub interval_back : (file : List ℕ) (l : Lent) (cell w : ℕ) → w ≡ counted_word (counted_of (meant file l (interval cell)))
    → (word_number w ≡ (meant file l (interval cell)).number) × (counted_in w ≡ (meant file l (interval cell)).values)
unfolding accepted_done refused_done
interval_back file l cell w same = by_number (lowest (refusals file l (interval cell))) refl
  where
    by_number : (n : ℕ) → lowest (refusals file l (interval cell)) ≡ n
        → (word_number w ≡ (meant file l (interval cell)).number) × (counted_in w ≡ (meant file l (interval cell)).values)
    by_number zero e = rw (same, meant_by file l (interval cell) 0 e) (counted_back _)
    by_number (suc n) e =
        let most = number_most file l (interval cell) in
        rw (same, meant_by file l (interval cell) (suc n) e) (refused_back n _ (omega arith))

module _ (file : List ℕ) (l : Lent) (tug : ℕ) (a : Node) (goal dwell : ℕ) where
  abbrev q : PublicCall
  q = listed (route tug a goal dwell)

  -- a granted light is short
  light_short : lowest (refusals file l q) ≡ 0 → length (encode (granted_light (site_of file) (bytes_view (site_of file) l.board) tug a goal dwell)) < 16777216
  unfolding granted_light bytes_view
  light_short e =
      let site : Site = site_of file in
      let z : (meant file l q).number ≡ 0 = meant_number file l q ∙ e in
      let well : WellFormed site = read_well file site (parts_read file l q (accepted_parts file l q z)) in
      let (r, found) = granted_found file l tug a goal dwell z in
      let x : Light = granted_light site (bytes_view site l.board) tug a goal dwell in
      let fits : length (encode x) ≤ light_room site =
      all_laws.search.fits site well (free site l.board) a goal dwell r found x (ap (λ (o : Option Route). (route_found o).steps) found) in
      let horizon : site.horizon ≤ 1000 = well.horizon_range.1 in
      omega arith

  -- the word of a route call
  pub route_back : (w : ℕ) → w ≡ granted_word (granted_of (meant file l q)) → (word_number w ≡ (meant file l q).number) × (granted_in w ≡ (meant file l q).values)
  unfolding accepted_done refused_done
  route_back w same = by_number (lowest (refusals file l q)) refl
    where
      by_number : (n : ℕ) → lowest (refusals file l q) ≡ n → (word_number w ≡ (meant file l q).number) × (granted_in w ≡ (meant file l q).values)
      by_number zero e = rw (same, meant_by file l q 0 e) (granted_back _ _ (light_short e))
      by_number (suc n) e =
          let most = number_most file l q in
          rw (same, meant_by file l q (suc n) e) (refused_back n _ (omega arith))
