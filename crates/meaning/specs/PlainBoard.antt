-- The plain board: an edition and entries. It is fed the site and each call's arguments except the board, areas as lengths
-- ('Lists of calls' of docs/FORMATS.md).
-- Assumes nothing.
use Rattle.std.specs.Prelude.{ℕ, zero, suc, ◌+◌, Bool, cond, not, List, [], ◌∷◌, ◌++◌, leb, ltb, eqb, length}
use Rattle.meaning.specs.Basics.{every, any, tabulate, put32}
use Rattle.meaning.specs.Answers.{lowest}
use Rattle.meaning.specs.Site.{Site}
use Rattle.meaning.specs.Board.{is_tug, Free, clear_around, Pair, run_to}
use Rattle.meaning.specs.Light.{Light, encode, light_of}
use Rattle.meaning.specs.Calls.{Call, route, audit, post, close, withdraw, View, Room, call_refusals, granted_light, light_pairs}

-- a holder with a set of pairs
pub record Entry : Type 0 where
  pub holder : ℕ
  pub pairs : List Pair

pub record Plain : Type 0 where
  pub edition : ℕ
  pub entries : List Entry

abbrev pub empty_plain : Plain
empty_plain = record { edition = 0; entries = [] }

-- ---- what it says of a pair and of a holder

-- the pair is one of these
abbrev pub has_pair : List Pair → ℕ → ℕ → Bool
has_pair ps c t = any (λ (p : Pair). every (eqb p.cell c ∷ eqb p.tick t ∷ [])) ps

-- the pair is in some entry
abbrev pub taken : List Entry → ℕ → ℕ → Bool
taken es c t = any (λ (e : Entry). has_pair e.pairs c t) es

-- the pair's holder, or 0
abbrev pub holder_at : List Entry → ℕ → ℕ → ℕ
holder_at [] c t = 0
holder_at (e ∷ es) c t = cond (has_pair e.pairs c t) e.holder (holder_at es c t)

-- the pair is in some entry of a tug
abbrev pub tug_taken : List Entry → ℕ → ℕ → Bool
tug_taken es c t = any (λ (e : Entry). every (is_tug e.holder ∷ has_pair e.pairs c t ∷ [])) es

-- free means in no entry, there and within the margin
unfoldable pub plain_free : Site → List Entry → Free
plain_free site es c t = every (ltb c site.cells ∷ leb t site.horizon ∷ clear_around site (taken es c) t ∷ [])

-- what a closure may take: in no entry, and in none of a tug's within the margin
unfoldable pub plain_closable : Site → List Entry → Free
plain_closable site es c t =
    every (ltb c site.cells ∷ leb t site.horizon ∷ not (taken es c t) ∷ clear_around site (tug_taken es c) t ∷ [])

-- a holder stands if it has an entry
abbrev pub has_entry : List Entry → ℕ → Bool
has_entry es h = any (λ (e : Entry). eqb e.holder h) es

unfoldable pub plain_view : Site → Plain → View
plain_view site p =
    record {
      edition = p.edition;
      stands = has_entry p.entries;
      free = plain_free site p.entries;
      closable = plain_closable site p.entries;
    }

-- ---- a call

-- the entries without the holder's
abbrev pub without : ℕ → List Entry → List Entry
without h [] = []
without h (e ∷ es) = cond (eqb e.holder h) (without h es) (e ∷ without h es)

-- one entry more, and 1 added to n
abbrev pub with_entry : Plain → ℕ → List Pair → Plain
with_entry p h ps = record { edition = p.edition + 1; entries = record { holder = h; pairs = ps } ∷ p.entries }

-- the plain board after an accepted call
unfoldable pub plain_changed : Site → Plain → Call → Plain
plain_changed site p (route tug a goal dwell) = p
plain_changed site p (audit light) = p
plain_changed site p (post light) = with_entry p (light_of light).tug (light_pairs site (light_of light))
plain_changed site p (close h cell first last) = with_entry p h (run_to cell first last)
plain_changed site p (withdraw h) = record { edition = p.edition + 1; entries = without h p.entries }

-- what is compared of a call: its number, and a granted route's light, length and arrival
pub record Seen : Type 0 where
  pub number : ℕ
  pub values : List ℕ
  pub light : List ℕ

abbrev pub number_seen : ℕ → Seen
number_seen n = record { number = n; values = []; light = [] }

abbrev pub light_seen : Light → Seen
light_seen l = record { number = 0; values = length (encode l) ∷ l.arrival ∷ []; light = encode l }

-- what an accepted call shows
abbrev pub accepted_seen : Site → View → Call → Seen
accepted_seen site v (route tug a goal dwell) = light_seen (granted_light site v tug a goal dwell)
accepted_seen site v (audit light) = number_seen 0
accepted_seen site v (post light) = number_seen 0
accepted_seen site v (close h cell first last) = number_seen 0
accepted_seen site v (withdraw h) = number_seen 0

abbrev pub seen_by : Site → View → Call → ℕ → Seen
seen_by site v c zero = accepted_seen site v c
seen_by site v c (suc n) = number_seen (suc n)

abbrev pub plain_number : Site → Plain → Room → Call → ℕ
plain_number site p room c = lowest (call_refusals site (plain_view site p) room c)

unfoldable pub plain_seen : Site → Plain → Room → Call → Seen
plain_seen site p room c = seen_by site (plain_view site p) c (plain_number site p room c)

-- a refused call changes nothing
abbrev pub plain_by : Site → Plain → Call → ℕ → Plain
plain_by site p c zero = plain_changed site p c
plain_by site p c (suc n) = p

unfoldable pub plain_after : Site → Plain → Room → Call → Plain
plain_after site p room c = plain_by site p c (plain_number site p room c)

-- ---- the bytes that it is compared with: n, and each pair's holder or 0, cell by cell

abbrev pub cells_from : Site → List Entry → ℕ → ℕ → List ℕ
cells_from site es c zero = []
cells_from site es c (suc n) = tabulate (holder_at es c) 0 (suc site.horizon) ++ cells_from site es (suc c) n

unfoldable pub bytes_of : Site → Plain → List ℕ
bytes_of site p = put32 p.edition ++ cells_from site p.entries 0 site.cells
