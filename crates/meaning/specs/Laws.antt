-- The theorems about the definitions: each record is one statement, proved in proofs/Theorems.antt.
-- Assumes nothing.
use Rattle.std.specs.Prelude.{ℕ, suc, ◌+◌, ◌*◌, ◌≤◌, ◌<◌, ◌≡◌, ◌⊎◌, Bool, true, false, List, [], ◌∷◌, ◌++◌, length, drop}
use Rattle.std.proofs.Math.Option.{Option, none, some}
use Rattle.meaning.specs.Basics.{Each, Some, Bytes}
use Rattle.meaning.specs.Runs.{meets, Meet}
use Rattle.meaning.specs.Answers.{Refusal, lowest, RiseFrom, accepted, refused}
use Rattle.meaning.specs.Fields.{Field, fields}
use Rattle.meaning.specs.Site.{Site, Sweep, Centre, state_at, cell_of, covers, site_of, site_refusals, read_site}
use Rattle.meaning.specs.Board.{Free, is_tug, is_closure, is_holder}
use Rattle.meaning.specs.Plan.{Step, wait, Node, plan_end, can_unload, plan_pairs}
use Rattle.meaning.specs.Reach.{reach_word, Route, find_route}
use Rattle.meaning.specs.Light.{Light, light_of, encode, decode}
use Rattle.meaning.specs.Intervals.{Interval, intervals, numbers_of}
use Rattle.meaning.specs.Calls.{Call, PublicCall, Lent, travel_refusals, refusals}
use Rattle.meaning.specs.PlainBoard.{has_pair}
use Rattle.meaning.specs.Day.{line, Day, call_of, day_opened, text_of, texts, day_text, piece, line_next, day_next}
use Rattle.meaning.specs.DayPrints.{LineText, ScriptField, start, DayPrints}
use Rattle.meaning.specs.ValidPlans.{Leads, Valid, Unloads, ValidPlan, Reached, Arrival, Along, Holds, Traced, merge_waits}
use Rattle.meaning.specs.SafeIntervals.{AllSafeIntervals}
use Rattle.meaning.specs.WellFormed.{WellFormed, CentreFits, file_of, InLayout, KeepsLayout}
use Rattle.meaning.specs.Pictures.{Picture, place_between, picture_of, draw_refusals, draw_meant}
use Rattle.meaning.specs.DrawnPictures.{OnCentre, Shown}

-- the numbers of every call's list rise, so that the first that applies is the lowest
pub record RefusalsRise : Type 0 where
  pub rise : (file : List ℕ) (l : Lent) (q : PublicCall) → RiseFrom 0 (refusals file l q)
  pub travel : (d : ℕ) → RiseFrom 0 (travel_refusals d)
  pub draw : (file light : List ℕ) (k : ℕ) → RiseFrom 0 (draw_refusals file light k)

-- the number that a rising list tells: 0 exactly where none applies, and else one that applies while no lower one does
pub record LowestRight : Type 0 where
  pub none : (rs : List Refusal) → RiseFrom 0 rs → lowest rs ≡ 0 → Each (λ (r : Refusal). r.applies ≡ false) rs
  pub all_none : (rs : List Refusal) → Each (λ (r : Refusal). r.applies ≡ false) rs → lowest rs ≡ 0
  pub applies : (rs : List Refusal) (n : ℕ) → lowest rs ≡ suc n → Some (λ (r : Refusal). (r.number ≡ suc n) × (r.applies ≡ true)) rs
  pub no_lower : (rs : List Refusal) → RiseFrom 0 rs → Each (λ (r : Refusal). r.number < lowest rs → r.applies ≡ false) rs

-- the holders of 9, at each end; 255 is no holder
pub record HoldersRight : Type 0 where
  pub tugs : (h : ℕ) → is_tug h ≡ true → (1 ≤ h) × (h ≤ 199)
  pub all_tugs : (h : ℕ) → 1 ≤ h → h ≤ 199 → is_tug h ≡ true
  pub closures : (h : ℕ) → is_closure h ≡ true → (200 ≤ h) × (h ≤ 254)
  pub all_closures : (h : ℕ) → 200 ≤ h → h ≤ 254 → is_closure h ≡ true
  pub holders : (h : ℕ) → is_holder h ≡ true → (1 ≤ h) × (h ≤ 254)
  pub all_holders : (h : ℕ) → 1 ≤ h → h ≤ 254 → is_holder h ≡ true
  pub not_255 : is_holder 255 ≡ false

-- the one comparison says yes exactly when some tick lies in both runs, for any ends, and so decides when a sweep uses its cell at an offset
pub record MeetsRight : Type 0 where
  pub met : (a b c d : ℕ) → meets a b c d ≡ true → Meet a b c d
  pub all_met : (a b c d : ℕ) → Meet a b c d → meets a b c d ≡ true
  pub covered : (c j : ℕ) (w : Sweep) → covers c j w ≡ true → (w.cell ≡ c) × (w.first ≤ j) × (j ≤ w.last)
  pub all_covered : (c j : ℕ) (w : Sweep) → (w.cell ≡ c) × (w.first ≤ j) × (j ≤ w.last) → covers c j w ≡ true

-- a file of bytes is accepted exactly when it is the file of a well-formed site of at most 65,536 bytes, and it is read as that site
pub record SitesRight : Type 0 where
  pub read_back : (site : Site) → WellFormed site → Each CentreFits site.centres → length (file_of site) ≤ 65536
      → read_site (file_of site) ≡ accepted site
  pub only_those : (file : List ℕ) (site : Site) → Bytes file → read_site file ≡ accepted site
      → WellFormed site × Each CentreFits site.centres × (file_of site ≡ file) × (length file ≤ 65536)
  -- a file that is not tells the lowest number that applies
  pub refused_by : (file : List ℕ) (n : ℕ) → lowest (site_refusals file) ≡ suc n → read_site file ≡ refused (suc n)

-- bytes are a light exactly when they are that light's bytes and it keeps the layout
pub record LightsRight : Type 0 where
  pub read_back : (l : Light) → KeepsLayout l → decode (encode l) ≡ some l
  pub only_those : (bytes : List ℕ) (l : Light) → Bytes bytes → decode bytes ≡ some l → KeepsLayout l × (encode l ≡ bytes)

-- the walk accepts exactly the valid steps, and the pairs that are marked are exactly those that the plan holds
pub record PlansRight : Type 0 where
  pub walked : (site : Site) (f : Free) (a : Node) (ps : List Step) (b : Node) → plan_end site f a ps ≡ some b → Valid site f a ps b
  pub all_walked : (site : Site) (f : Free) (a : Node) (ps : List Step) (b : Node) → Valid site f a ps b → plan_end site f a ps ≡ some b
  pub marked : (site : Site) (a : Node) (ps : List Step) (b : Node) (dwell c t : ℕ) → has_pair (plan_pairs site a ps b dwell) c t ≡ true
      → Holds site a ps b dwell c t
  pub all_marked : (site : Site) (a : Node) (ps : List Step) (b : Node) (dwell c t : ℕ) → Holds site a ps b dwell c t
      → has_pair (plan_pairs site a ps b dwell) c t ≡ true

-- time at the dock
pub record DwellRight : Type 0 where
  pub unloaded : (site : Site) (f : Free) (b : Node) (dwell : ℕ) → can_unload site f b dwell ≡ true → Unloads site f b dwell
  pub all_unloaded : (site : Site) (f : Free) (b : Node) (dwell : ℕ) → Unloads site f b dwell → can_unload site f b dwell ≡ true
  -- a dwell at a standing goal is allowed exactly as a wait there is
  pub as_a_wait : (site : Site) (f : Free) (b : Node) (n : ℕ) → 1 ≤ n → (state_at site b.state).speed ≡ 0 → Unloads site f b n
      → Leads site f b (wait n ∷ []) (record { state = b.state; tick = b.tick + n })
  pub wait_unloads : (site : Site) (f : Free) (b c : Node) (n : ℕ) → Leads site f b (wait n ∷ []) c → Unloads site f b n
  -- a dwell of 0 asks for nothing that valid steps do not have, and holds nothing but the start's pair and what the steps use: plans
  -- without a dwell are as if there were none
  pub no_dwell : (site : Site) → WellFormed site → (f : Free) (a : Node) (ps : List Step) (b : Node) → Valid site f a ps b → Unloads site f b 0
  pub no_dwell_holds : (site : Site) → WellFormed site → (f : Free) (a : Node) (ps : List Step) (b : Node) → Valid site f a ps b
      → (c t : ℕ) → Holds site a ps b 0 c t → ((c ≡ cell_of site a.state) × (t ≡ a.tick)) ⊎ Along site c t a ps

-- the search, on a well-formed site
pub record SearchRight : Type 0 where
  -- a back pointer is not 0 exactly at a reached pair
  pub pointed : (site : Site) → WellFormed site → (f : Free) (a : Node) (k s w : ℕ)
      → reach_word site f a k s ≡ suc w → Reached site f a (record { state = s; tick = a.tick + k })
  pub all_pointed : (site : Site) → WellFormed site → (f : Free) (a : Node) (k s : ℕ)
      → Reached site f a (record { state = s; tick = a.tick + k }) → reach_word site f a k s ≡ 0 → ⊥
  -- a route is found exactly when a valid plan exists
  pub found : (site : Site) → WellFormed site → (f : Free) (a : Node) (goal dwell : ℕ) (ps : List Step) (t : ℕ)
      → ValidPlan site f a ps (record { state = goal; tick = t }) dwell → find_route site f a goal dwell ≡ none → ⊥
  -- it arrives on the least tick from which the tug can unload
  pub earliest : (site : Site) → WellFormed site → (f : Free) (a : Node) (goal dwell : ℕ) (r : Route) → find_route site f a goal dwell ≡ some r
      → Arrival site f a goal dwell r.arrival
  -- its steps are valid, and those of the traced rule with adjoining waits merged
  pub valid : (site : Site) → WellFormed site → (f : Free) (a : Node) (goal dwell : ℕ) (r : Route) → find_route site f a goal dwell ≡ some r
      → ValidPlan site f a r.steps (record { state = goal; tick = r.arrival }) dwell
  pub traced : (site : Site) → WellFormed site → (f : Free) (a : Node) (goal dwell : ℕ) (r : Route) → find_route site f a goal dwell ≡ some r
      → (back : List Step) × Traced site f a (record { state = goal; tick = r.arrival }) back × (r.steps ≡ merge_waits back [])
  -- that rule leaves no choice
  pub one_trace : (site : Site) (f : Free) (a b : Node) (back other : List Step) → Traced site f a b back → Traced site f a b other → back ≡ other
  -- every light of the steps fits the output area
  pub fits : (site : Site) → WellFormed site → (f : Free) (a : Node) (goal dwell : ℕ) (r : Route) → find_route site f a goal dwell ≡ some r
      → (l : Light) → l.steps ≡ r.steps → length (encode l) ≤ 18 + 5 * site.horizon

-- what the interval call writes: all safe intervals and only those, in no more numbers than the area must have
pub record IntervalsRight : Type 0 where
  pub all_safe : (p : ℕ → Bool) (horizon : ℕ) → AllSafeIntervals p horizon (intervals p horizon)
  -- the first and the last tick of each, one after the other
  pub numbers : (first : ℕ) (last : ℕ) (is : List Interval) → numbers_of (record { first = first; last = last } ∷ is) ≡ first ∷ last ∷ numbers_of is
  pub fit : (p : ℕ → Bool) (horizon : ℕ) → length (numbers_of (intervals p horizon)) ≤ horizon + 2

-- handover: at each tick before it has unloaded a valid plan holds some one cell at that tick and the next
pub record HandoverRight : Type 0 where
  pub handed : (site : Site) → WellFormed site → (f : Free) (a : Node) (ps : List Step) (b : Node) (dwell : ℕ) → ValidPlan site f a ps b dwell
      → (t : ℕ) → a.tick ≤ t → t < b.tick + dwell
      → (c : ℕ) × Holds site a ps b dwell c t × Holds site a ps b dwell c (suc t)
  -- so of two plans that share no pair, a valid one never moves into the cells that the other leaves at that moment: they never change places
  pub no_swap : (site : Site) → WellFormed site → (f : Free) (a d : Node) (ps qs : List Step) (b e : Node) (dwell other : ℕ) → ValidPlan site f a ps b dwell
      → ((c t : ℕ) → Holds site a ps b dwell c t → Holds site d qs e other c t → ⊥)
      → (t : ℕ) → a.tick ≤ t → t < b.tick + dwell
      → ((c : ℕ) → Holds site a ps b dwell c (suc t) → Holds site d qs e other c t) → ⊥

-- the moving picture: what is drawn of a step is what the words say, and nothing else
pub record PicturesRight : Type 0 where
  pub shown : (site : Site) (l : Light) → InLayout true l.steps → (i k : ℕ) → k ≤ 16 → Shown site l k i (picture_of site l i k)
  pub only_shown : (site : Site) (l : Light) (i k : ℕ) (p : Picture) → k ≤ 16 → Shown site l k i p → p ≡ picture_of site l i k
  -- frames 0 and 16 sit on the centres of the motion's from and to cells
  pub first_frame : (a b : Centre) → OnCentre a (place_between 0 a b)
  pub last_frame : (a b : Centre) → OnCentre b (place_between 16 a b)
  -- the call answers with it where no refusal applies, and else with the lowest number that does
  pub drawn : (file light : List ℕ) (i k : ℕ) → lowest (draw_refusals file light k) ≡ 0
      → draw_meant file light i k ≡ accepted (picture_of (site_of file) (light_of light) i k)
  pub refused_by : (file light : List ℕ) (i k n : ℕ) → lowest (draw_refusals file light k) ≡ suc n → draw_meant file light i k ≡ refused (suc n)

-- ---- the day program

-- the text of the turns from a day on, the first or later ones, each of which reads a piece of the script; nothing where the program
-- has ended
pub data Turns (file : List ℕ) : Bool → List ℕ → Option Day → List ℕ → Type 0 where
  ended : {first : Bool} {rest : List ℕ} → Turns file first rest none []
  turned : {first : Bool} {rest text : List ℕ} {d : Day}
      → Turns file false (drop (length (piece rest)) rest) (day_next file (fields (piece rest)) d) text
      → Turns file first rest (some d) (texts (line_next file first (fields (piece rest)) d) ++ text)

-- the text of the opening and of the turns, one after the other
pub data DayTurns (file script : List ℕ) : List ℕ → Type 0 where
  not_opened : {n : ℕ} → (start file).number ≡ suc n → DayTurns file script (text_of (line (suc n) 0 0))
  opened : {text : List ℕ} → (start file).number ≡ 0
      → Turns file true script (some (day_opened (start file))) text
      → DayTurns file script text

pub record DayRight : Type 0 where
  -- it prints what DayPrints says, and nothing else
  pub prints : (file script : List ℕ) → Bytes script → DayPrints file script (day_text file script)
  pub only_prints : (file script text : List ℕ) → Bytes script → DayPrints file script text → text ≡ day_text file script
  -- after a successful open an empty script prints 0 0 0, byte by byte
  pub quiet : (file : List ℕ) → (start file).number ≡ 0 → day_text file [] ≡ 48 ∷ 32 ∷ 48 ∷ 32 ∷ 48 ∷ 10 ∷ []
  -- a refused open prints its own line only, also with an empty script
  pub refused_open : (file script : List ℕ) (n : ℕ) → (start file).number ≡ suc n → LineText (suc n) 0 0 (day_text file script)
  -- no site file and script print nothing at all, so that silence is a program that never started
  pub never_silent : (file script : List ℕ) → 1 ≤ length (day_text file script)
  -- it may read its script turn by turn, no more than a header and the value that a call may have: the opening and the turns, one after
  -- the other, print the text of the whole script, and no other
  pub short_pieces : (script : List ℕ) → length (piece script) ≤ 12
  pub turns : (file script : List ℕ) → DayTurns file script (day_text file script)
  pub only_turns : (file script text : List ℕ) → DayTurns file script text → text ≡ day_text file script
  -- a site whose board is larger than the area meets 7
  pub too_large : (file script : List ℕ) (site : Site) → read_site file ≡ accepted site → 65536 < 4 + site.cells * (site.horizon + 1)
      → day_text file script ≡ text_of (line 7 0 0)
  -- a field makes a call exactly when it is that call's: another tag or length makes none
  pub calls : (light : List ℕ) (f : Field) (c : Call) → Bytes f.value → call_of light f ≡ some c → ScriptField light c f
  pub all_calls : (light : List ℕ) (f : Field) (c : Call) → ScriptField light c f → call_of light f ≡ some c
