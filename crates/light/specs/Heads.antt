-- A light's head as the numbers that the code holds.
-- Assumes nothing.
use Rattle.std.specs.Prelude.{List}
use Rattle.meaning.specs.Light.{Light}
use Rattle.meaning.specs.Plan.{Step}
use Rattle.light.specs.declared.Head.{Head}

-- the numbers of a light
abbrev pub head_of : Light → Head
head_of l =
    record { edition = l.edition; tug = l.tug; start = l.start; tick = l.tick; goal = l.goal; arrival = l.arrival; dwell = l.dwell }

-- the light with these numbers and steps
abbrev pub light_with : Head → List Step → Light
light_with h steps =
    record {
      edition = h.edition;
      tug = h.tug;
      start = h.start;
      tick = h.tick;
      goal = h.goal;
      arrival = h.arrival;
      dwell = h.dwell;
      steps = steps;
    }
