-- What the parts of the search are handed, and what they give together: the plan.
-- Assumes nothing.
use Prim.Native.Nat.{ℕ, suc, ◌+◌, ◌*◌, ◌-◌, ◌/◌, ◌%◌, ◌≤◌, ◌<◌}
use native.Mathlib.Nat.{mul-le-mul}
use native.Mathlib.Omega.{arith}
use mathlib.Core.Path.{◌≡◌, sym, ap, ◌∙◌, subst}
use mathlib.Core.Bool.{Bool, true, false, false≢true}
use mathlib.Core.Option.{some}
use Rattle.std.specs.Prelude.{Some, None}
use mathlib.Core.List.{List}
use lib.Dec.{leb}
use lib.ListN.{length, get_or, replicate}
use borrow.Author.Tests.{leb-true}
use Rattle.meaning.specs.Site.{Site, cell_of, motion_at}
use Rattle.meaning.specs.WellFormed.{WellFormed}
use Rattle.meaning.specs.Board.{Free}
use Rattle.meaning.specs.Plan.{node}
use Rattle.meaning.proofs.BasicsLaws.{and_left, and_right}
use Rattle.meaning.proofs.CallLaws.{named_start, named_tick, named_goal}
use Rattle.meaning.proofs.MotionLaws.{cell_known}
use Rattle.meaning.proofs.TraceLaws.{reached_pair}
use Rattle.site.specs.declared.Sizes.{Sizes}
use Rattle.site.specs.declared.Trip.{Trip}
use Rattle.site.specs.declared.hall.Hall.{Hall}
use Rattle.site.specs.Halls.{site_in, free_in}
use Rattle.light_write.specs.Codes.{steps_in}
use Rattle.search_sizes.specs.Sizes.{block_ticks, window_words}
use Rattle.search_ticks.specs.Bits.{bit}
use Rattle.search_ticks.specs.Rows.{at, has}
use Rattle.search_ticks.proofs.RowLaws.{zeros_at, zero_bit}
use Rattle.search_runs.specs.Runs.{run_tables, table_of}
use Rattle.search_runs.proofs.LengthLaws.{table_mono}
use Rattle.search_site.specs.Arrays.{cell_at, span_at, place_at, count_at, Motions}
use Rattle.search_site.specs.Decoded.{SweepsIn, StatesDecoded, MotionsDecoded, LongestTo}
use Rattle.search_site.proofs.DecodedLaws.{well, states_fit, cells_below, motions_fit, motions_lead, sweeps_fit, decoded}
use Rattle.search_ends.specs.Ends.{reached_at, ends_on, First, EndsRight}
use Rattle.search_scene.specs.Arrays.{InArrays}
use Rattle.search_reach.specs.Explored.{Space}
use Rattle.search_reach.proofs.BlockLaws.{never_true}
use Rattle.search_trace.specs.declared.Path.{Path}
use Rattle.search_trace.specs.Turns.{Search, Found}
use Rattle.search_trace.proofs.FoundLaws.{route_after, route_there, route_nowhere, arrival_found}
use Rattle.search_plan.specs.Planned.{Asked, route_on, Planned, Needed, TabRoom}

-- ---- empty tables

pub blank : (n j : ℕ) → at (replicate {A = ℕ} n 0) j ≡ false
unfolding at
blank n j = ap (λ (w : ℕ). bit w (j % 64)) (zeros_at n (j / 64)) ∙ zero_bit (j % 64)

-- ---- the hall

module _ (hall : Hall) where
  abbrev l : Sizes
  l = hall.sizes

  abbrev site : Site
  site = site_in hall

  abbrev f : Free
  f = free_in hall

  site_well : WellFormed site
  site_well = well hall.file.bytes.now hall.ready.read

  pub same_states : l.states ≡ length site.states
  same_states = ap (λ (k : Sizes). k.states) hall.ready.sizes

  pub same_motions : l.motions ≡ length site.motions
  same_motions = ap (λ (k : Sizes). k.motions) hall.ready.sizes

  pub same_horizon : site.horizon ≡ l.horizon
  same_horizon = sym (ap (λ (k : Sizes). k.horizon) hall.ready.sizes)

  pub same_cells : site.cells ≡ l.cells
  same_cells = sym (ap (λ (k : Sizes). k.cells) hall.ready.sizes)

  -- the numbers that keep each index of the search in range
  pub record Few : Type 0 where
    pub short : l.horizon ≤ 1000
    pub cells : l.cells ≤ 1000
    pub states : l.states ≤ 1280
    pub motions : l.motions ≤ 4000

  pub few : Few
  few =
      let w = site_well in
      record {
        short = omega (arith, w.horizon_range, same_horizon);
        cells = omega (arith, w.cells_range, same_cells);
        states = omega (arith, w.states_range, same_states);
        motions = omega (arith, w.motions_range, same_motions);
      }

  -- the cell of a state
  pub cell_below : (s c : ℕ) → s < l.states → c ≡ cell_of site s → c < site.cells
  cell_below s c below e = omega (arith, e, cell_known site site_well s (omega (arith, same_states)))

  -- ---- the site in arrays

  module _ (mv : List ℕ) (moves : MotionsDecoded hall.file.bytes.now mv) where
    pub motions_in : l.motions * 5 ≤ length mv → Motions l.motions mv
    motions_in = motions_fit hall.file.bytes.now hall.ready.read mv moves l.motions same_motions

    pub arrays_in : (st : List ℕ) → StatesDecoded hall.file.bytes.now st → l.states * 2 ≤ length st → l.motions * 5 ≤ length mv → InArrays hall.file.bytes.now l st mv
    arrays_in st held states motions =
        record {
          states = states_fit hall.file.bytes.now hall.ready.read st held l.states same_states states;
          motions = motions_in motions;
          cells = subst (λ (c : ℕ). (s : ℕ) → s < l.states → cell_at st s < c) same_cells (cells_below hall.file.bytes.now hall.ready.read st held l.states same_states);
          leads = motions_lead hall.file.bytes.now hall.ready.read mv moves l.states l.motions same_states same_motions;
          sweeps = λ m h. subst (λ (c : ℕ). SweepsIn c (span_at mv m) hall.file.bytes.now (place_at mv m) (count_at mv m)) same_cells (sweeps_fit hall.file.bytes.now hall.ready.read mv moves l.motions same_motions m h);
          decoded = decoded hall.file.bytes.now hall.ready.read st mv held moves l.states l.motions same_states same_motions;
        }

  -- ---- an asked trip

  module _ (trip : Trip) (q : Asked hall trip) where
    abbrev start : ℕ
    start = trip.start

    abbrev tick : ℕ
    tick = trip.tick

    abbrev goal : ℕ
    goal = trip.goal

    abbrev dwell : ℕ
    dwell = trip.dwell

    -- its states and its tick are in range
    pub record Ranges : Type 0 where
      pub in_time : tick ≤ l.horizon
      pub start_below : start < l.states
      pub goal_below : goal < l.states

    pub ranges : Ranges
    ranges =
        let h = same_horizon in
        let n = same_states in
        record {
          in_time = omega (arith, named_tick site (node start tick) goal dwell q);
          start_below = omega (arith, named_start site (node start tick) goal dwell q);
          goal_below = omega (arith, named_goal site (node start tick) goal dwell q);
        }

    -- ---- no plan at once

    no_plan : ((t : ℕ) → ends_on site f (node start tick) goal dwell t ≡ true → t ≤ l.horizon → ⊥) → (path : Path) → Planned (route_on hall trip) path None
    unfolding Planned
    no_plan never path =
        let r = ranges in
        route_nowhere site f start tick goal dwell l.horizon (l.horizon + 1) site_well same_horizon r.in_time
        (record {
          above = omega (arith, r.in_time);
          within = omega arith;
          none = λ t lo hi. never_true _ (λ e. never t e (omega arith));
          hit = λ h. absurd (omega arith);
        })
        (omega arith)

    -- the start's cell is held
    pub start_held : (b : Bool) → b ≡ f (cell_of site start) tick → b ≡ false → (path : Path) → Planned (route_on hall trip) path None
    start_held b is held =
        no_plan (λ t e in_time.
        let r = and_left (reached_at site f (node start tick) goal t) _ e in
        let v = (reached_pair site site_well f (node start tick) (t - tick) goal (and_right (leb tick t) _ r)).valid.start_free_lem in
        false≢true (sym held ∙ is ∙ v))

    -- the tug can unload at no tick
    pub never_unloads : (ends : List Bool) → EndsRight site f goal dwell tick ends → ((t : ℕ) → tick ≤ t → t ≤ l.horizon → get_or ends t false ≡ false)
        → (path : Path) → Planned (route_on hall trip) path None
    never_unloads ends right nowhere =
        no_plan (λ t e in_time.
        let r = and_left (reached_at site f (node start tick) goal t) _ e in
        let late : tick ≤ t = leb-true _ _ (and_left (leb tick t) _ r) in
        let can = and_right (reached_at site f (node start tick) goal t) _ e in
        false≢true (sym (nowhere t late in_time) ∙ right t late (omega (arith, same_horizon)) ∙ can))

    -- ---- the plan

    module _ (re : List ℕ) (arrival : ℕ) (first : First (ends_on site f (node start tick) goal dwell) tick (l.horizon + 1) arrival) where
      pub missing : (path : Path) → l.horizon < arrival → Planned (route_on hall trip) path None
      unfolding Planned
      missing path late = route_nowhere site f start tick goal dwell l.horizon arrival site_well same_horizon ranges.in_time first late

      abbrev answered : Search
      answered = record { start = start; dwell = dwell; route = route_after site f (node start tick) goal (arrival - tick) }

      module _ (there : arrival ≤ l.horizon)
          (rows : arrival ≤ l.horizon → (s t : ℕ) → t ≤ arrival → has re s (block_ticks + t) ≡ reached_at site f (node start tick) s t) where
        pub found : Found answered hall re tick goal arrival
        found = arrival_found hall re start tick goal dwell l.horizon arrival site_well same_horizon ranges.in_time first there (rows there)

        pub planned : (path : Path) → ((x : Search) → Found x hall re tick goal arrival → steps_in path.codes path.count ≡ x.route.steps)
            → Planned (route_on hall trip) path (Some arrival)
        unfolding Planned
        planned path traced =
            let late = first.above in
            let there_on : tick + (arrival - tick) ≡ arrival = omega arith in
            let same : steps_in path.codes path.count ≡ answered.route.steps = traced answered found in
            route_there site f start tick goal dwell l.horizon arrival site_well same_horizon ranges.in_time first there
            ∙ ap some (λ i. record { steps = sym same i; arrival = there_on i })

-- ---- the tables

-- those that motions of at most the longest span need
pub needed : {hall : Hall} (longest tables : ℕ) → LongestTo hall.file.bytes.now hall.sizes.motions longest → tables ≡ table_of (longest + 1) + 1 → table_of (longest + 1) < run_tables
    → Needed hall tables
needed {hall} longest tables to is few =
    let more : longest + 1 ≡ suc longest = omega arith in
    record {
      some = omega arith;
      few = omega arith;
      enough = λ m h.
          let mono = table_mono (suc (motion_at (site_in hall) m).span) (suc longest) (omega arith) (omega (arith, to.longest m h)) (omega (arith, to.small)) in
          omega (arith, ap table_of more);
    }

-- room for so many rows
pub tab_room : {l : Sizes} {tables : ℕ} (rows : ℕ) → tables * l.cells ≤ rows → rows ≤ 9000 → TabRoom l tables (rows * window_words + 1)
tab_room rows few_rows most = record { tab = omega arith; small = omega arith }

-- room that the search over blocks asks for
pub space_in : {hall : Hall} (mv : List ℕ) {tables tab : ℕ} → hall.sizes.motions ≡ length (site_in hall).motions → MotionsDecoded hall.file.bytes.now mv → Needed hall tables
    → TabRoom hall.sizes tables tab → Space hall.sizes mv tables tab
space_in mv {tables} count held needs room =
    record {
      some = needs.some;
      few = needs.few;
      enough = λ m h. subst (λ (span : ℕ). table_of (suc span) < tables) (sym (held m (omega arith)).shows.span) (needs.enough m h);
      tab = room.tab;
      small = room.small;
    }

pub all_rows : (hall : Hall) {tables : ℕ} → Needed hall tables → tables * hall.sizes.cells ≤ 9000
all_rows hall needs = mul-le-mul needs.few (few hall).cells
