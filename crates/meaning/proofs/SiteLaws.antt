-- The files that the site reader accepts are exactly the files of the well-formed sites.
-- Assumes nothing.
use Prim.Native.Nat.{ℕ, suc, ◌≤◌, ◌<◌}
use native.Mathlib.Omega.{arith}
use mathlib.Core.Path.{◌≡◌, refl, sym, ap, ap₂, ◌∙◌, subst}
use mathlib.Core.Logic.{◌⊎◌}
use mathlib.Core.Bool.{true, not}
use mathlib.Core.List.{List, [], ◌∷◌, ◌++◌, map}
use lib.ListN.{length, get_or, take, drop, length-map, take-append-drop}
use lib.Seq.{length-take-le, take_at, drop_at}
use borrow.Author.Tests.{leb-true, le-leb, ltb-true, lt-ltb, not-false}
use Rattle.meaning.specs.Limits.{file_limit}
use Rattle.meaning.specs.Basics.{all, Each, Bytes, u16_at}
use Rattle.meaning.specs.Answers.{lowest, accepted, refused, answer}
use Rattle.meaning.specs.Fields.{Field, fields, complete, listed, fields_bytes}
use Rattle.meaning.specs.Site.{State, Sweep, Motion, Centre, Site, state_of, motion_of, centre_of, before_centres, from_centres, head_of, later_of, state_count, site_of}
use Rattle.meaning.specs.Site.{head_good, motions_laid, centres_laid, layout_good, cell_good, motion_good, site_refusals, read_site}
use Rattle.meaning.specs.WellFormed.{GoodMotion, WellFormed, CentreFits, state_field, motion_field, centre_field, head_field, file_of}
use Rattle.meaning.specs.Refusals.{Writable}
use Rattle.meaning.specs.Laws.{SitesRight}
use Rattle.meaning.proofs.BasicsLaws.{all_head, all_tail, all_each, each_all, each_map, u16_back}
use Rattle.meaning.proofs.AnswersLaws.{lowest_none, lowest_clear, answer_accepted, accepted_answer, site_rise}
use Rattle.meaning.proofs.FieldsLaws.{fields_of, bytes_of}
use Rattle.meaning.proofs.MotionLaws.{motion_good_lem, good_motion}
use Rattle.meaning.proofs.SiteFieldsLaws.{CellFits, each_take, map_back, each_mapped, each_joined, each_apart, each_drop, each_both}
use Rattle.meaning.proofs.SiteFieldsLaws.{IsState, state_written, state_read, state_made, IsMotion, motion_parts, motion_written, motion_sweeps, motion_read, motion_size_lem, motion_made}
use Rattle.meaning.proofs.SiteFieldsLaws.{IsCentre, centre_fits, centre_written, centre_read_lem, centre_made, cut_joined, joined_before, joined_from}
use Rattle.meaning.proofs.SiteFieldsLaws.{layout_states, layout_enough, layout_motions, layout_centres, laid_out, motions_laid_lem, laid_motions, centres_laid_lem, laid_centres, head_good_lem, good_head, head_written, head_made, head_first}

-- ---- the six tests

-- none of the refusals applies
pub record Passes (file : List ℕ) : Type 0 where
  pub short : length file ≤ file_limit
  pub whole : complete (fields file) ≡ true
  pub head : head_good (head_of file) ≡ true
  pub layout : layout_good (site_of file).cells (state_count file) (later_of file) ≡ true
  pub cells : all (cell_good (site_of file).cells) (site_of file).states ≡ true
  pub motions : all (motion_good (site_of file)) (site_of file).motions ≡ true

pub passes : (file : List ℕ) → lowest (site_refusals file) ≡ 0 → Passes file
unfolding site_refusals
passes file e =
    let none = lowest_none (site_refusals file) (site_rise file) e in
    record {
      short = leb-true (length file) file_limit (not-false _ none.0);
      whole = not-false _ none.1.0;
      head = not-false _ none.1.1.0;
      layout = not-false _ none.1.1.1.0;
      cells = not-false _ none.1.1.1.1.0;
      motions = not-false _ none.1.1.1.1.1.0;
    }

pub passed : (file : List ℕ) → Passes file → lowest (site_refusals file) ≡ 0
unfolding site_refusals
passed file p =
    lowest_clear (site_refusals file) (
      ap not (le-leb (length file) file_limit p.short),
      (ap not p.whole, (ap not p.head, (ap not p.layout, (ap not p.cells, (ap not p.motions, tt))))),
    )

pub read_site_lem : (file : List ℕ) (site : Site) → read_site file ≡ accepted site → (lowest (site_refusals file) ≡ 0) × (site_of file ≡ site)
unfolding read_site
read_site_lem file site e = answer_accepted (site_of file) site (lowest (site_refusals file)) e

pub site_read : (file : List ℕ) → lowest (site_refusals file) ≡ 0 → read_site file ≡ accepted (site_of file)
unfolding read_site
site_read file e = accepted_answer (site_of file) (lowest (site_refusals file)) e

read_refused : (file : List ℕ) (n : ℕ) → lowest (site_refusals file) ≡ suc n → read_site file ≡ refused (suc n)
unfolding read_site answer
read_refused file n e = ap (answer (site_of file)) e

-- ---- what is accepted is well formed

abbrev CellKnown : Site → State → Type 0
CellKnown site s = s.cell < site.cells

pub motions_well : (site : Site) (ms : List Field) → Each IsMotion ms → all (motion_good site) (map motion_of ms) ≡ true
    → Each (GoodMotion site) (map motion_of ms)
motions_well site [] h k = tt
motions_well site (f ∷ ms) (h, hs) k =
    let (_, least, most, _) = motion_parts f h in
    let count = motion_sweeps f h in (
      motion_good_lem site (motion_of f) (omega arith) (omega arith) (all_head (motion_good site) (motion_of f) (map motion_of ms) k),
      motions_well site ms hs (all_tail (motion_good site) (motion_of f) (map motion_of ms) k),
    )

pub state_number : (file : List ℕ) → layout_good (site_of file).cells (state_count file) (later_of file) ≡ true → length (site_of file).states ≡ state_count file
unfolding site_of
state_number file laid =
    let enough = layout_enough (site_of file).cells (state_count file) (later_of file) laid in
    length-map (take (state_count file) (later_of file)) state_of ∙ length-take-le (state_count file) (later_of file) enough

passes_well : (file : List ℕ) → Passes file → WellFormed (site_of file)
unfolding site_of state_count
passes_well file p =
    let site = site_of file in
    let ms = before_centres (drop (state_count file) (later_of file)) in
    let cs = from_centres (drop (state_count file) (later_of file)) in
    let (moving, few) = motions_laid_lem ms (layout_motions site.cells (state_count file) (later_of file) p.layout) in
    let (number, _) = centres_laid_lem site.cells cs (layout_centres site.cells (state_count file) (later_of file) p.layout) in
    let count = state_number file p.layout in
    let h = head_good_lem (head_of file) p.head in
    record {
      horizon_range = h.horizon_range;
      cells_range = h.cells_range;
      margin_range = h.margin_range;
      states_range = rw count h.states_range;
      motions_range = rw (length-map ms motion_of) few;
      state_cells = all_each (CellKnown site) (cell_good site.cells) (λ s. ltb-true s.cell site.cells) site.states p.cells;
      motions_good = motions_well site ms moving p.motions;
      centres_number = rw (length-map cs centre_of) number;
    }

pub read_passes : (file : List ℕ) (site : Site) → read_site file ≡ accepted site → Passes file
read_passes file site e = passes file (read_site_lem file site e).0

pub read_well : (file : List ℕ) (site : Site) → read_site file ≡ accepted site → WellFormed site
read_well file site e = subst WellFormed (read_site_lem file site e).1 (passes_well file (read_passes file site e))

-- ---- what is accepted is the file of its site

-- a field of bytes
abbrev OfBytes : Field → Type 0
OfBytes f = (f.tag < 256) × Bytes f.value × (length f.value < 65536)

passes_fields : (file : List ℕ) → Passes file → head_of file ∷ later_of file ≡ listed (fields file)
unfolding head_of later_of
passes_fields file p = head_first (listed (fields file)) (head_good_lem (head_of file) p.head).tag_right

passes_head : (file : List ℕ) → Passes file → Bytes (head_of file).value → head_field (site_of file) ≡ head_of file
unfolding site_of state_count
passes_head file p bytes = head_written (head_of file) (site_of file) (head_good_lem (head_of file) p.head) bytes refl refl refl (state_number file p.layout)

passes_states : (file : List ℕ) → Passes file → Each OfBytes (later_of file) → map state_field (site_of file).states ≡ take (state_count file) (later_of file)
unfolding site_of
passes_states file p bytes =
    let n = state_count file in
    let ss = take n (later_of file) in
    map_back (λ (f : Field). IsState f × OfBytes f) state_of state_field (λ f (h, b). state_written f h b.1) ss
    (each_both IsState OfBytes ss (layout_states (site_of file).cells n (later_of file) p.layout) (each_take OfBytes n (later_of file) bytes))

-- the fields behind the states: the motions, and the centres
abbrev rest : List ℕ → List Field
rest file = drop (state_count file) (later_of file)

rest_bytes : (file : List ℕ) → Each OfBytes (later_of file) → Each OfBytes (before_centres (rest file)) × Each OfBytes (from_centres (rest file))
rest_bytes file bytes =
    each_apart OfBytes (before_centres (rest file)) (from_centres (rest file))
    (subst (Each OfBytes) (sym (cut_joined (rest file))) (each_drop OfBytes (state_count file) (later_of file) bytes))

passes_motions : (file : List ℕ) → Passes file → Each OfBytes (later_of file) → map motion_field (site_of file).motions ≡ before_centres (rest file)
unfolding site_of
passes_motions file p bytes =
    let ms = before_centres (rest file) in
    let (moving, _) = motions_laid_lem ms (layout_motions (site_of file).cells (state_count file) (later_of file) p.layout) in
    map_back (λ (f : Field). IsMotion f × OfBytes f) motion_of motion_field (λ f (h, b). motion_written f h b.1) ms
    (each_both IsMotion OfBytes ms moving (rest_bytes file bytes).0)

-- the centres' fields, each of them of bytes
passes_placed : (file : List ℕ) → Passes file → Each OfBytes (later_of file) → Each (λ (f : Field). IsCentre f × OfBytes f) (from_centres (rest file))
passes_placed file p bytes =
    let cs = from_centres (rest file) in
    each_both IsCentre OfBytes cs (centres_laid_lem (site_of file).cells cs (layout_centres (site_of file).cells (state_count file) (later_of file) p.layout)).1
    (rest_bytes file bytes).1

passes_centres : (file : List ℕ) → Passes file → Each OfBytes (later_of file) → map centre_field (site_of file).centres ≡ from_centres (rest file)
unfolding site_of
passes_centres file p bytes =
    map_back (λ (f : Field). IsCentre f × OfBytes f) centre_of centre_field (λ f (h, b). centre_written f h b.1) (from_centres (rest file)) (passes_placed file p bytes)

passes_fit : (file : List ℕ) → Passes file → Each OfBytes (later_of file) → Each CentreFits (site_of file).centres
unfolding site_of
passes_fit file p bytes =
    each_mapped (λ (f : Field). IsCentre f × OfBytes f) CentreFits centre_of (λ f (h, b). centre_fits f b.1) (from_centres (rest file)) (passes_placed file p bytes)

passes_file : (file : List ℕ) → Bytes file → Passes file → Each CentreFits (site_of file).centres × (file_of (site_of file) ≡ file)
unfolding file_of
passes_file file bytes p =
    let n = state_count file in
    let (back, each) = bytes_of file bytes p.whole in
    let all_fields = passes_fields file p in
    let (first, others) = subst (Each OfBytes) (sym all_fields) each in
    let head = passes_head file p first.1 in
    let behind = ap₂ {C = List Field} (λ ms cs. ms ++ cs) (passes_motions file p others) (passes_centres file p others) ∙ cut_joined (rest file) in
    let later = ap₂ {C = List Field} (λ ss fs. ss ++ fs) (passes_states file p others) behind ∙ take-append-drop n (later_of file) in
    (passes_fit file p others, ap fields_bytes (ap₂ {C = List Field} (λ f fs. f ∷ fs) head later ∙ all_fields) ∙ back)

-- ---- the file of a well-formed site is accepted

abbrev site_fields : Site → List Field
site_fields site = map state_field site.states ++ (map motion_field site.motions ++ map centre_field site.centres)

-- a motion that a file can hold
abbrev MotionFits : Motion → Type 0
MotionFits m = (m.from < 65536) × (m.to < 65536) × (length m.sweeps ≤ 16) × Each CellFits m.sweeps

motion_fits : (m : Motion) → MotionFits m → length (motion_field m).value < 65536
motion_fits m (from, to, most, cells) = let e = motion_size_lem m in omega arith

well_written : (site : Site) → WellFormed site → Each CentreFits site.centres → Writable site
well_written site well placed = record {
  horizon_fits = omega (arith, well.horizon_range.1);
  cells_fit = omega (arith, well.cells_range.1);
  states_fit = omega (arith, well.states_range.1);
  state_cells_fit = each_map (CellKnown site) (λ (s : State). s.cell < 65536) (λ s below. let most = well.cells_range.1 in omega arith)
      site.states well.state_cells;
  motions_fit = each_map (GoodMotion site) MotionFits
      (λ m good.
      let from = good.from_below in
      let to = good.to_below in
      let most = well.states_range.1 in
      (omega arith, omega arith, good.few_sweeps, sweeps m good)) site.motions well.motions_good;
  centres_fit = placed;
}
  where
    sweeps : (m : Motion) → GoodMotion site m → Each CellFits m.sweeps
    sweeps m good =
        let most = well.cells_range.1 in
        each_map (λ (w : Sweep). (w.cell < site.cells) × (w.first ≤ w.last) × (w.last ≤ m.span)) CellFits
        (λ w (below, ordered, in_span). omega arith) m.sweeps good.sweeps_fit

-- no field is too long
fields_fit : (site : Site) → Writable site → Each (λ (f : Field). length f.value < 65536) (head_field site ∷ site_fields site)
fields_fit site fit = (
  omega arith,
  each_joined Short (map state_field site.states) (map motion_field site.motions ++ map centre_field site.centres) (states site.states)
      (each_joined Short (map motion_field site.motions) (map centre_field site.centres) motions centres),
)
  where
    Short : Field → Type 0
    Short f = length f.value < 65536

    states : (ss : List State) → Each Short (map state_field ss)
    states [] = tt
    states (s ∷ ss) = (omega arith, states ss)

    motions : Each Short (map motion_field site.motions)
    motions = each_mapped MotionFits Short motion_field motion_fits site.motions fit.motions_fit

    centres : Each Short (map centre_field site.centres)
    centres = each_mapped CentreFits Short centre_field (λ c h. omega arith) site.centres fit.centres_fit

-- what is read from a file with the fields of the site
module _ (file : List ℕ) (site : Site) (fit : Writable site) (same : listed (fields file) ≡ head_field site ∷ site_fields site) where
  file_head : head_of file ≡ head_field site
  unfolding head_of
  file_head = rw same

  file_later : later_of file ≡ site_fields site
  unfolding later_of
  file_later = rw same

  file_count : state_count file ≡ length site.states
  unfolding state_count
  file_count = rw file_head (u16_back (length site.states) fit.states_fit)

  file_states : map state_of (take (state_count file) (later_of file)) ≡ site.states
  file_states =
      let ss = map state_field site.states in
      rw (file_count, file_later, take_at ss (map motion_field site.motions ++ map centre_field site.centres) (length site.states) (length-map site.states state_field))
      (map_back (λ (s : State). s.cell < 65536) state_field state_of state_read site.states fit.state_cells_fit)

  -- behind the states come the motions, none with a centre's tag, and then the centres
  file_rest : rest file ≡ map motion_field site.motions ++ map centre_field site.centres
  file_rest =
      let ss = map state_field site.states in
      rw (file_count, file_later) (drop_at ss (map motion_field site.motions ++ map centre_field site.centres) (length site.states) (length-map site.states state_field))

  moving : Each (λ (f : Field). f.tag ≡ 3) (map motion_field site.motions)
  moving = each_mapped MotionFits (λ (f : Field). f.tag ≡ 3) motion_field (λ m h. refl) site.motions fit.motions_fit

  placed : Each (λ (f : Field). f.tag ≡ 4) (map centre_field site.centres)
  placed = each_mapped CentreFits (λ (f : Field). f.tag ≡ 4) centre_field (λ c h. refl) site.centres fit.centres_fit

  file_before : before_centres (rest file) ≡ map motion_field site.motions
  file_before = ap before_centres file_rest ∙ joined_before (map motion_field site.motions) (map centre_field site.centres) moving placed

  file_from : from_centres (rest file) ≡ map centre_field site.centres
  file_from = ap from_centres file_rest ∙ joined_from (map motion_field site.motions) (map centre_field site.centres) moving placed

  file_centres : map centre_of (from_centres (rest file)) ≡ site.centres
  file_centres = rw file_from (map_back CentreFits centre_field centre_of (λ c (x, y). centre_read_lem c x y) site.centres fit.centres_fit)

  file_motions : map motion_of (before_centres (rest file)) ≡ site.motions
  file_motions =
      rw file_before
      (map_back MotionFits motion_field motion_of (λ m (from, to, most, cells). motion_read m from to cells) site.motions fit.motions_fit)

  file_site : site_of file ≡ site
  unfolding site_of
  file_site =
      let horizon : u16_at (head_of file).value 0 ≡ site.horizon = rw file_head (u16_back site.horizon fit.horizon_fits) in
      let cells : u16_at (head_of file).value 2 ≡ site.cells = rw file_head (u16_back site.cells fit.cells_fit) in
      let margin : get_or (head_of file).value 6 0 ≡ site.margin = rw file_head in
      λ i. record { horizon = horizon i; cells = cells i; margin = margin i; states = file_states i; motions = file_motions i; centres = file_centres i }

-- the file of any site is read as that site, refused or not
pub written_read : (site : Site) → Writable site → site_of (file_of site) ≡ site
unfolding file_of
written_read site fit = file_site (file_of site) site fit (fields_of (head_field site ∷ site_fields site) (fields_fit site fit)).1

module _ (file : List ℕ) (site : Site) (well : WellFormed site) (coordinates : Each CentreFits site.centres) (same : listed (fields file) ≡ head_field site ∷ site_fields site) where
  abbrev fit : Writable site
  fit = well_written site well coordinates

  file_layout : layout_good (site_of file).cells (state_count file) (later_of file) ≡ true
  file_layout =
      let ss = map state_field site.states in
      let ms = map motion_field site.motions in
      let standing = each_mapped (CellKnown site) IsState state_field (λ s h. state_made s) site.states well.state_cells in
      let going = each_mapped (GoodMotion site) IsMotion motion_field (λ m good. motion_made m good.some_sweeps good.few_sweeps)
      site.motions well.motions_good in
      let laid = laid_motions ms going (rw (length-map site.motions motion_field) well.motions_range) in
      let cs = map centre_field site.centres in
      let centred = each_mapped CentreFits IsCentre centre_field (λ c h. centre_made c) site.centres coordinates in
      let number = subst (λ (n : ℕ). (n ≡ site.cells) ⊎ (n ≡ 0)) (sym (length-map site.centres centre_field)) well.centres_number in
      let are_motions = moving file site fit same in
      let are_centres = placed file site fit same in
      let first : motions_laid (before_centres (ms ++ cs)) ≡ true = rw (joined_before ms cs are_motions are_centres) laid in
      let later : centres_laid site.cells (from_centres (ms ++ cs)) ≡ true =
      rw (joined_from ms cs are_motions are_centres) (laid_centres site.cells cs number centred) in
      rw (file_site file site fit same, file_count file site fit same, file_later file site fit same)
      (rw (length-map site.states state_field) at (laid_out site.cells ss (ms ++ cs) standing first later))

  file_passes : length file ≤ file_limit → complete (fields file) ≡ true → Passes file
  file_passes short whole = record {
    short = short;
    whole = whole;
    head = rw (file_head file site fit same) (good_head (head_field site) (head_made site well));
    layout = file_layout;
    cells = rw (file_site file site fit same) (each_all (CellKnown site) (cell_good site.cells) (λ s. lt-ltb s.cell site.cells) site.states well.state_cells);
    motions = rw (file_site file site fit same) (each_all (GoodMotion site) (motion_good site) (good_motion site) site.motions well.motions_good);
  }

made_read : (site : Site) → WellFormed site → Each CentreFits site.centres → length (file_of site) ≤ file_limit → read_site (file_of site) ≡ accepted site
unfolding file_of
made_read site well placed short =
    let file = file_of site in
    let (whole, same) = fields_of (head_field site ∷ site_fields site) (fields_fit site (well_written site well placed)) in
    site_read file (passed file (file_passes file site well placed same short whole)) ∙ ap accepted (file_site file site (well_written site well placed) same)

read_made : (file : List ℕ) (site : Site) → Bytes file → read_site file ≡ accepted site
    → WellFormed site × Each CentreFits site.centres × (file_of site ≡ file) × (length file ≤ file_limit)
read_made file site bytes e =
    let (clear, same) = read_site_lem file site e in
    let p = passes file clear in
    let (placed, back) = passes_file file bytes p in
    (read_well file site e, subst (λ (s : Site). Each CentreFits s.centres) same placed, ap file_of (sym same) ∙ back, p.short)

pub sites_right : SitesRight
sites_right = record { read_back = λ site well placed short. made_read site well placed short; refused_by = read_refused; only_those = read_made }
