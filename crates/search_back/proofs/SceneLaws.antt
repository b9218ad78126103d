-- What a scene says of one of its states and of one of its motions.
-- Assumes nothing.
use Prim.Native.Nat.{ℕ, ◌<◌}
use native.Mathlib.Omega.{arith}
use lib.ListN.{length}
use Rattle.meaning.specs.Site.{motion_at}
use Rattle.site.specs.Halls.{site_in}
use Rattle.site_read.specs.Motions.{MotionIs}
use Rattle.plan_steps.proofs.Laws.{known}
use Rattle.search_site.specs.Arrays.{cell_at, speed_at}
use Rattle.search_site.specs.Decoded.{StateDecoded, motion_in}
use Rattle.search_scene.specs.declared.Scene.{Scene}

pub state_known : (scene : Scene) (s : ℕ) → s < scene.hall.sizes.states → s < length (site_in scene.hall).states
state_known scene s h = omega (arith, (known scene.hall.ready).states)

pub motion_known : (scene : Scene) (m : ℕ) → m < scene.hall.sizes.motions → m < length (site_in scene.hall).motions
motion_known scene m h = omega (arith, (known scene.hall.ready).motions)

pub state_shown : (scene : Scene) (s : ℕ) → s < scene.hall.sizes.states → StateDecoded scene.hall.file.bytes.now s (cell_at scene.states.now s) (speed_at scene.states.now s)
state_shown scene s h = scene.states_decoded s (state_known scene s h)

pub motion_shown : (scene : Scene) (m : ℕ) → m < scene.hall.sizes.motions → MotionIs scene.hall.file.bytes.now (motion_at (site_in scene.hall) m) (motion_in scene.motions.now m)
motion_shown scene m h = (scene.motions_decoded m (motion_known scene m h)).shows
