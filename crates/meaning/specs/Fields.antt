-- Bytes as fields: a one-byte tag, a two-byte length, a value. Site file, light and script are made of them.
-- Assumes nothing.
use Rattle.std.specs.Prelude.{ℕ, zero, suc, ◌+◌, ◌*◌, List, [], ◌∷◌, ◌++◌, Bool, true, false, cond, length, take, drop, leb}
use Rattle.meaning.specs.Basics.{put16}

pub record Field : Type 0 where
  pub tag : ℕ
  pub value : List ℕ

-- what stands for a field that is not there
abbrev pub no_field : Field
no_field = record { tag = 0; value = [] }

-- ---- reading

-- The fields in order. `cut`: here a header or a value runs past the end.
pub data Fields : Type 0 where
  end : Fields
  cut : Fields
  next : Field → Fields → Fields

-- at most k fields of s
unfoldable pub split : ℕ → List ℕ → Fields
split zero s = end
split (suc k) [] = end
split (suc k) (t ∷ []) = cut
split (suc k) (t ∷ h ∷ []) = cut
split (suc k) (t ∷ h ∷ l ∷ s) =
    let n = h * 256 + l in
    let more = split k (drop n s) in
    cond (leb n (length s)) (next (record { tag = t; value = take n s }) more) cut

-- all fields of s: there are no more than it has bytes
unfoldable pub fields : List ℕ → Fields
fields s = split (length s) s

-- no field is cut
unfoldable pub complete : Fields → Bool
complete end = true
complete cut = false
complete (next f fs) = complete fs

-- the fields before the end, or before the one that is cut
unfoldable pub listed : Fields → List Field
listed end = []
listed cut = []
listed (next f fs) = f ∷ listed fs

-- ---- writing

abbrev pub field_bytes : Field → List ℕ
field_bytes f = (f.tag ∷ put16 (length f.value)) ++ f.value

abbrev pub fields_bytes : List Field → List ℕ
fields_bytes [] = []
fields_bytes (f ∷ fs) = field_bytes f ++ fields_bytes fs
