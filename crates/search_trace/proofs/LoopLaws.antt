-- The loop of the walk back, over the reached pairs of the search.
-- Assumes nothing.
use Prim.Native.Nat.{ℕ, suc, ◌+◌, ◌-◌, ◌≤◌, ◌<◌}
use native.Mathlib.Omega.{arith}
use mathlib.Core.Path.{◌≡◌, refl, sym, ap, ◌∙◌, subst}
use mathlib.Core.Logic.{◌⊎◌, inl, inr}
use mathlib.Core.List.{List, [], ◌∷◌}
use lib.ListN.{length}
use Rattle.meaning.specs.Limits.{horizon_limit}
use Rattle.meaning.specs.Site.{Site, motion_at}
use Rattle.meaning.specs.Board.{Free}
use Rattle.meaning.specs.Plan.{Step, wait, move, node}
use Rattle.meaning.specs.WellFormed.{WellFormed}
use Rattle.meaning.specs.Reach.{reach_word, wait_one}
use Rattle.meaning.proofs.ReachLaws.{Arrives, found_arrives}
use Rattle.meaning.proofs.TraceLaws.{found_steps}
use Rattle.meaning.proofs.SiteLaws.{read_well}
use Rattle.site.specs.Halls.{site_in, free_in}
use Rattle.search_site.specs.Arrays.{from_at, span_at}
use Rattle.search_scene.specs.declared.Scene.{Scene}
use Rattle.search_back.specs.declared.Back.{Back}
use Rattle.search_back.specs.Words.{word_of, ReachedTo}
use Rattle.search_trace.specs.Turns.{wait_in_front, Search, Found}
use Rattle.search_trace.proofs.TurnLaws.{ByMotion, said_motion, Rest, rest_wait, rest_move, rest_done}

-- one more tick of waiting
wait_longer : (ps : List Step) → wait_in_front (wait_one ps) ≡ suc (wait_in_front ps)
wait_longer [] = refl
wait_longer (move m ∷ ps) = refl
wait_longer (wait n ∷ ps) = refl

wait_length : (ps : List Step) → length (wait_one ps) ≤ suc (length ps)
wait_length [] = omega arith
wait_length (move m ∷ ps) = omega arith
wait_length (wait n ∷ ps) = omega arith

-- the words of the start and of a pair that is not reached
pub low_word : (b : Back) → (b ≡ Back.Start) ⊎ (b ≡ Back.NotReached) → word_of b < 2
low_word b (inl e) = rw e (omega arith)
low_word b (inr e) = rw e (omega arith)

-- what the arrays say of the motion m that leads to a pair
pub record Motion (site : Site) (mv : List ℕ) (tick t m : ℕ) : Type 0 where
  pub known : m < length site.motions
  pub from : from_at mv m < length site.states
  pub takes_time : 1 ≤ span_at mv m
  pub in_time : span_at mv m + tick ≤ t

module _ (scene : Scene) (re : List ℕ) (tick goal arrival : ℕ) where
  abbrev site : Site
  site = site_in scene.hall

  abbrev f : Free
  f = free_in scene.hall

  abbrev mv : List ℕ
  mv = scene.motions.now

  well : WellFormed site
  well = read_well scene.hall.file.bytes.now site scene.hall.ready.read

  -- the rest of a search, from state s at the tick t
  abbrev RestOf : Search → ℕ → ℕ → List Step → Type 0
  RestOf x s t ps = Rest site f (node x.start tick) (site.horizon - tick) x.route.steps (t - tick) s ps

  -- what holds at each turn: the indices are in range, and tracing the rest in front of the steps gives the route's
  pub record Going (s t : ℕ) (ps : List Step) : Type 0 where
    pub state : s < length site.states
    pub started : tick ≤ t
    pub early : t ≤ arrival
    pub in_time : t ≤ site.horizon
    pub few : length ps + t ≤ horizon_limit
    pub waits : wait_in_front ps + t ≤ horizon_limit
    pub rest : (x : Search) → Found x scene.hall re tick goal arrival → RestOf x s t ps

  -- w is the word of the pair
  abbrev pub Says : ℕ → ℕ → ℕ → Type 0
  Says s t w = (start : ℕ) → ReachedTo site f (node start tick) t re → w ≡ reach_word site f (node start tick) (t - tick) s

  pub going_first : (x : Search) → Found x scene.hall re tick goal arrival → goal < length site.states → Going goal arrival []
  going_first x h known =
      let (laid, named, late, in_time) = found_steps site well f (node x.start tick) goal x.dwell x.route h.found in
      let (low, most) = well.horizon_range in
      record {
        state = known;
        started = omega (arith, h.on_tick);
        early = omega arith;
        in_time = omega (arith, h.on_tick);
        few = omega (arith, h.on_tick);
        waits = omega (arith, h.on_tick);
        rest = first;
      }
    where
      first : (x : Search) → Found x scene.hall re tick goal arrival → RestOf x goal arrival []
      first x h =
          let got : Arrives site well f (node x.start tick) goal x.dwell x.route =
          found_arrives site well f (node x.start tick) goal x.dwell x.route h.found in
          let same : got.after_start ≡ arrival - tick = omega (arith, got.on_tick, h.on_tick) in
          subst
          (λ (j : ℕ). Rest site f (node x.start tick) (site.horizon - tick) x.route.steps j goal [])
          same
          (record {
            fuel = suc got.after_start;
            enough = omega arith;
            early = got.in_time;
            here = got.here;
            traced = sym got.traced;
          })

  -- the word of this pair, for a search
  word_here : {s t w : ℕ} {ps : List Step} → Going s t ps → Says s t w → (x : Search) → Found x scene.hall re tick goal arrival
      → w ≡ reach_word site f (node x.start tick) (t - tick) s
  word_here g says x h = says x.start (λ s u le. let early = g.early in h.reached s u (omega arith))

  pub going_wait : (s t : ℕ) (ps new : List Step) → tick < t → Going s t ps → Says s t 2 → new ≡ wait_one ps → Going s (t - 1) new
  going_wait s t ps new later g says e =
      subst (Going s (t - 1)) (sym e)
      (record {
        state = g.state;
        started = omega arith;
        early = omega (arith, g.early);
        in_time = omega (arith, g.in_time);
        few = omega (arith, g.few, wait_length ps);
        waits = omega (arith, g.waits, wait_longer ps);
        rest = λ x h.
            let before : t - tick - 1 ≡ t - 1 - tick = omega arith in
            rw before at
            (rest_wait site well f (node x.start tick) (site.horizon - tick) x.route.steps (g.rest x h)
            (sym (word_here g says x h)));
      })

  by_motion_lem : {s t w : ℕ} {ps : List Step} → tick < t → Going s t ps → Says s t w → (w ≡ 2 → ⊥)
      → (x : Search) → Found x scene.hall re tick goal arrival → ByMotion site f (node x.start tick) (t - tick) w
  by_motion_lem {s} {t} {w} later g says other x h =
      said_motion site well f (node x.start tick) (t - tick) s w (g.rest x h).here (word_here g says x h) (omega arith) other

  -- the pair is reached, and is not the start
  pub going_back : (s t w : ℕ) (ps : List Step) → tick < t → Going s t ps → Says s t w → w < 2
      → (x : Search) → Found x scene.hall re tick goal arrival → ⊥
  going_back s t w ps later g says low x h =
      let b = by_motion_lem later g says (λ two. omega arith) x h in
      omega (arith, b.word)

  pub going_motion : (s t m : ℕ) (ps : List Step) → tick < t → Going s t ps → Says s t (m + 3)
      → (x : Search) → Found x scene.hall re tick goal arrival → Motion site mv tick t m
  going_motion s t m ps later g says x h =
      let b = by_motion_lem later g says (λ two. omega arith) x h in
      let same : m ≡ b.number = omega (arith, b.word) in
      let shown = (scene.motions_decoded b.number b.known).shows in
      record {
        known = omega (arith, b.known);
        from = rw same (omega (arith, b.state, shown.from));
        takes_time = rw same (omega (arith, b.takes_time, shown.span));
        in_time = rw same (omega (arith, b.in_time, shown.span));
      }

  pub going_move : (s t m from span : ℕ) (ps new : List Step) → tick < t → Going s t ps → Says s t (m + 3) → Motion site mv tick t m
      → from ≡ from_at mv m → span ≡ span_at mv m → new ≡ move m ∷ ps → Going from (t - span) new
  going_move s t m from span ps new later g says motion e_from e_span e =
      subst (Going from (t - span)) (sym e)
      (record {
        state = omega (arith, motion.from);
        started = omega (arith, motion.in_time);
        early = omega (arith, g.early);
        in_time = omega (arith, g.in_time);
        few = omega (arith, g.few, motion.takes_time, motion.in_time);
        waits = omega (arith, g.few);
        rest = λ x h.
            let b = by_motion_lem later g says (λ two. omega arith) x h in
            let shown = (scene.motions_decoded b.number b.known).shows in
            let same : b.number ≡ m = omega (arith, b.word) in
            let is_from : (motion_at site b.number).from ≡ from = sym shown.from ∙ ap (from_at mv) same ∙ sym e_from in
            let is_span : (motion_at site b.number).span ≡ span = sym shown.span ∙ ap (span_at mv) same ∙ sym e_span in
            let tick_then : t - tick - (motion_at site b.number).span ≡ t - span - tick = omega arith in
            rw (tick_then, is_from, same) at
            (rest_move site well f (node x.start tick) (site.horizon - tick) x.route.steps (g.rest x h)
            (word_here g says x h) b);
      })

  pub going_done : (s t : ℕ) (ps : List Step) → t ≤ tick → Going s t ps → (x : Search) → Found x scene.hall re tick goal arrival
      → ps ≡ x.route.steps
  going_done s t ps early g x h =
      rest_done site well f (node x.start tick) (site.horizon - tick) x.route.steps (g.rest x h) (omega arith)
