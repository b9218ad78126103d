-- The three demands, as statements about any desk. A wrong desk is a desk too, and a demand that it meets would be too weak.
-- Assumes nothing.
use Rattle.std.specs.Prelude.{ℕ, ◌+◌, ◌*◌, ◌≤◌, ◌<◌, ◌≡◌, true, ◌⊎◌, List, [], ◌∷◌, map, length, get_or, take, replicate}
use Rattle.std.proofs.Math.Option.{some}
use Rattle.meaning.specs.Basics.{Each, Some, Bytes}
use Rattle.meaning.specs.Answers.{Clears, lowest, accepted}
use Rattle.meaning.specs.Site.{Site, site_of, read_site}
use Rattle.meaning.specs.Board.{free, byte_at, edition}
use Rattle.meaning.specs.Plan.{Step, Node}
use Rattle.meaning.specs.Light.{Light, start_of, goal_of, decode}
use Rattle.meaning.specs.Intervals.{Interval, numbers_of}
use Rattle.meaning.specs.Calls.{Call, route, audit, post, close, withdraw, PublicCall, opening, interval, listed, Lent, room_of, refusals, Done, meant}
use Rattle.meaning.specs.PlainBoard.{Entry, Plain, empty_plain, has_pair, Seen, plain_seen, plain_after, bytes_of}
use Rattle.meaning.specs.ValidPlans.{ValidPlan, Holds, Traced, merge_waits}
use Rattle.meaning.specs.Refusals.{Tug, bytes_sight, CloseAccepted, LightAccepted, WithdrawAccepted, RouteAccepted}
use Rattle.meaning.specs.SafeIntervals.{AllSafeIntervals}

-- `desk file lent call done`: on this site file and with this lent, the call may return and leave this
abbrev pub Desk : Type 1
Desk = List ℕ → Lent → PublicCall → Done → Type 0

-- the desk of the definitions
abbrev pub meant_desk : Desk
meant_desk file l q d = d ≡ meant file l q

-- ---- areas

-- the numbers stand in front of the area, and later ones are as before
pub record Written (new before after : List ℕ) : Type 0 where
  pub same_length : length after ≡ length before
  pub front : (i : ℕ) → i < length new → get_or after i 0 ≡ get_or new i 0
  pub later : (i : ℕ) → length new ≤ i → get_or after i 0 ≡ get_or before i 0

-- the board has the next edition, the number at the pairs of the set, and every other byte as before
pub record Rewritten (site : Site) (before after : List ℕ) (Pairs : ℕ → ℕ → Type 0) (h : ℕ) : Type 0 where
  pub same_length : length after ≡ length before
  pub next_edition_lem : edition after ≡ edition before + 1
  pub there : (c t : ℕ) → c < site.cells → t ≤ site.horizon → Pairs c t → byte_at site after c t ≡ h
  pub elsewhere : (c t : ℕ) → c < site.cells → t ≤ site.horizon → (Pairs c t → ⊥) → byte_at site after c t ≡ byte_at site before c t

-- the light that a grant wrote: as many bytes as its first value says
abbrev pub light_in : List ℕ → List ℕ → List ℕ
light_in [] out = []
light_in (n ∷ values) out = take n out

abbrev pub light_out : Done → List ℕ
light_out d = light_in d.values d.lent.out

-- ---- demand 1

-- every answer is the definitions'
abbrev pub Exact : Desk → Type 0
Exact desk = (file : List ℕ) (l : Lent) (q : PublicCall) (d : Done) → desk file l q d → d ≡ meant file l q

-- all is as before but for the board
abbrev pub OnlyBoard : Lent → Done → Type 0
OnlyBoard l d = (d.values ≡ []) × (d.lent.out ≡ l.out) × (d.lent.words ≡ l.words)

pub record Demand1 (desk : Desk) : Type 0 where
  -- a call returns and writes exactly what is meant
  pub exactly : Exact desk
  -- a refused call gives the first number of the list that applies; 0 where none does
  pub first_number : (file : List ℕ) (l : Lent) (q : PublicCall) (d : Done) → desk file l q d → d.number ≡ lowest (refusals file l q)
  -- and changes no lent byte
  pub refused_alone : (file : List ℕ) (l : Lent) (q : PublicCall) (d : Done) → desk file l q d
      → (d.number ≡ 0 → ⊥) → (d.number ≡ 18 → ⊥) → d ≡ record { number = d.number; values = []; lent = l }
  -- except that a completed search without a plan leaves the working words it needs zero
  pub no_plan : (file : List ℕ) (l : Lent) (q : PublicCall) (d : Done) → desk file l q d → d.number ≡ 18
      → (d.values ≡ []) × (d.lent.board ≡ l.board) × (d.lent.out ≡ l.out)
      × Written (replicate (length (site_of file).states * ((site_of file).horizon + 1)) 0) l.words d.lent.words
  -- what an accepted call writes, and what it was accepted for: first of all, a light is posted on its own edition or not at all
  pub opened : (file : List ℕ) (l : Lent) (d : Done) → desk file l opening d → d.number ≡ 0
      → OnlyBoard l d × (d.lent.board ≡ replicate (4 + (site_of file).cells * ((site_of file).horizon + 1)) 0)
  pub opens : (file : List ℕ) (site : Site) → read_site file ≡ accepted site
      → (l : Lent) → length l.board ≡ 4 + site.cells * (site.horizon + 1)
      → (d : Done) → desk file l opening d → d.number ≡ 0
  pub closed : (file : List ℕ) (l : Lent) (h cell first last : ℕ) (d : Done) → Bytes l.board
      → desk file l (listed (close h cell first last)) d → d.number ≡ 0
      → OnlyBoard l d × Rewritten (site_of file) l.board d.lent.board (λ c t. (c ≡ cell) × (first ≤ t) × (t ≤ last)) h
      × CloseAccepted (site_of file) (bytes_sight (site_of file) l.board) h cell first last
  pub posted : (file : List ℕ) (l : Lent) (light : List ℕ) (d : Done) → Bytes l.board
      → desk file l (listed (post light)) d → d.number ≡ 0
      → (x : Light) × (decode light ≡ some x)
      × OnlyBoard l d × Rewritten (site_of file) l.board d.lent.board (Holds (site_of file) (start_of x) x.steps (goal_of x) x.dwell) x.tug
      × LightAccepted (site_of file) (bytes_sight (site_of file) l.board) x
  pub withdrawn : (file : List ℕ) (l : Lent) (h : ℕ) (d : Done) → Bytes l.board
      → desk file l (listed (withdraw h)) d → d.number ≡ 0
      → OnlyBoard l d × Rewritten (site_of file) l.board d.lent.board (λ c t. byte_at (site_of file) l.board c t ≡ h) 0
      × WithdrawAccepted (site_of file) (bytes_sight (site_of file) l.board) h
  pub audited : (file : List ℕ) (l : Lent) (light : List ℕ) (d : Done) → desk file l (listed (audit light)) d
      → (d.values ≡ []) × (d.lent ≡ l) × (d.number ≡ (meant file l (listed (post light))).number)
  pub granted : (file : List ℕ) (l : Lent) (tug : ℕ) (a : Node) (goal dwell : ℕ) (d : Done) → desk file l (listed (route tug a goal dwell)) d → d.number ≡ 0
      → (d.lent.board ≡ l.board)
      × Written (light_out d) l.out d.lent.out
      × Written (replicate (length (site_of file).states * ((site_of file).horizon + 1)) 0) l.words d.lent.words
      × RouteAccepted (site_of file) (bytes_sight (site_of file) l.board) (record { out = length l.out; words = length l.words }) tug a goal dwell

-- ---- demand 2

-- what holds of a route call that passes checks 1 to 14, on the board that it gets
pub record RouteRight (site : Site) (board : List ℕ) (tug : ℕ) (a : Node) (goal dwell : ℕ) (d : Done) : Type 0 where
  -- it is granted exactly when some valid plan leads to its goal and unloads there by the horizon; else it is 18
  pub granted_if : (ps : List Step) (t : ℕ) → ValidPlan site (free site board) a ps (record { state = goal; tick = t }) dwell → d.number ≡ 0
  pub refused_if : ((ps : List Step) (t : ℕ) → ValidPlan site (free site board) a ps (record { state = goal; tick = t }) dwell → ⊥) → d.number ≡ 18
  -- the granted light is such a plan, made from the board's edition, and every other such plan arrives on the same tick or later
  pub light : d.number ≡ 0
      → (x : Light)
      × (decode (light_out d) ≡ some x)
      × (x.edition ≡ edition board) × (x.tug ≡ tug) × (start_of x ≡ a) × (x.goal ≡ goal) × (x.dwell ≡ dwell)
      × (d.values ≡ length (light_out d) ∷ x.arrival ∷ [])
      × ValidPlan site (free site board) a x.steps (record { state = goal; tick = x.arrival }) dwell
      × ((ps : List Step) (t : ℕ) → ValidPlan site (free site board) a ps (record { state = goal; tick = t }) dwell → x.arrival ≤ t)
      -- and of those that arrive then it is the traced one
      × ((back : List Step) × Traced site (free site board) a (record { state = goal; tick = x.arrival }) back × (x.steps ≡ merge_waits back []))

pub record Demand2 (desk : Desk) : Type 0 where
  -- the free intervals reported for a cell are all its safe intervals, and only those
  pub intervals : (file : List ℕ) (l : Lent) (cell : ℕ) (d : Done) → desk file l (interval cell) d → d.number ≡ 0
      → (list : List Interval)
      × AllSafeIntervals (free (site_of file) l.board cell) (site_of file).horizon list
      × (d.values ≡ length list ∷ [])
      × (d.lent.board ≡ l.board) × (d.lent.words ≡ l.words)
      × Written (numbers_of list) l.out d.lent.out
  -- a light that clears checks 1 to 16 passes the audit exactly when its start, waits, motions and unloading are allowed and they end at its
  -- goal and arrival
  pub audit_passes : (file : List ℕ) (l : Lent) (light : List ℕ) (x : Light) (d : Done) → desk file l (listed (audit light)) d
      → Clears 16 (refusals file l (listed (audit light))) → decode light ≡ some x
      → ValidPlan (site_of file) (free (site_of file) l.board) (start_of x) x.steps (goal_of x) x.dwell → d.number ≡ 0
  pub audit_fails : (file : List ℕ) (l : Lent) (light : List ℕ) (x : Light) (d : Done) → desk file l (listed (audit light)) d
      → Clears 16 (refusals file l (listed (audit light))) → decode light ≡ some x
      → (ValidPlan (site_of file) (free (site_of file) l.board) (start_of x) x.steps (goal_of x) x.dwell → ⊥) → d.number ≡ 17
  -- routes, over boards of any content
  pub routes : (file : List ℕ) (l : Lent) (tug : ℕ) (a : Node) (goal dwell : ℕ) (d : Done) → Bytes l.board
      → desk file l (listed (route tug a goal dwell)) d → Clears 14 (refusals file l (listed (route tug a goal dwell)))
      → RouteRight (site_of file) l.board tug a goal dwell d

-- ---- demand 3

-- one call of a list: what it was lent, its own areas among it, and what came of it
pub record Turn : Type 0 where
  pub call : Call
  pub lent : Lent
  pub done : Done

-- the turns are calls on this desk, each on the board as the one before left it
abbrev pub Follows : Desk → List ℕ → List ℕ → List Turn → Type 0
Follows desk file board [] = Unit {0}
Follows desk file board (x ∷ xs) =
    (x.lent.board ≡ board) × desk file x.lent (listed x.call) x.done × Follows desk file x.done.lent.board xs

abbrev pub board_after : List ℕ → List Turn → List ℕ
board_after board [] = board
board_after board (x ∷ xs) = board_after x.done.lent.board xs

-- what is compared of a call
abbrev pub seen : Turn → Seen
seen x = record { number = x.done.number; values = x.done.values; light = light_out x.done }

-- the same calls on the plain board, areas as lengths
abbrev pub plain_after_all : Site → Plain → List Turn → Plain
plain_after_all site p [] = p
plain_after_all site p (x ∷ xs) = plain_after_all site (plain_after site p (room_of x.lent) x.call) xs

abbrev pub plain_seen_all : Site → Plain → List Turn → List Seen
plain_seen_all site p [] = []
plain_seen_all site p (x ∷ xs) = plain_seen site p (room_of x.lent) x.call ∷ plain_seen_all site (plain_after site p (room_of x.lent) x.call) xs

-- the holder has the cell on the tick
abbrev pub Has : List Entry → ℕ → ℕ → ℕ → Type 0
Has es h c t = Some (λ (e : Entry). (e.holder ≡ h) × (has_pair e.pairs c t ≡ true)) es

abbrev pub RouteTurn : List ℕ → Site → Turn → Type 0
RouteTurn file site x =
    (tug : ℕ) (a : Node) (goal dwell : ℕ) → x.call ≡ route tug a goal dwell
    → Clears 14 (refusals file x.lent (listed (route tug a goal dwell)))
    → RouteRight site x.lent.board tug a goal dwell x.done

-- after a list of calls from a fresh board
pub record ListRight (file : List ℕ) (site : Site) (board : List ℕ) (xs : List Turn) : Type 0 where
  -- the board, every call's number, and every granted route's light, length and arrival equal those of the plain board
  pub same_board : board_after board xs ≡ bytes_of site (plain_after_all site empty_plain xs)
  pub same_answers : map seen xs ≡ plain_seen_all site empty_plain xs
  pub edition_fits : (plain_after_all site empty_plain xs).edition ≤ 4294967295
  -- what follows is about entries, and by same-board about the board's bytes
  -- no two holders have the same cell on the same tick, and 255 is no holder
  pub no_two : (h k c t : ℕ) → Has (plain_after_all site empty_plain xs).entries h c t → Has (plain_after_all site empty_plain xs).entries k c t → h ≡ k
  pub known : (h c t : ℕ) → Has (plain_after_all site empty_plain xs).entries h c t → (1 ≤ h) × (h ≤ 254)
  -- of two different tugs using one cell, ticks differ by more than m; so do a tug's and a closure's
  pub spaced : (h k c t u : ℕ) → Tug h → (h ≡ k → ⊥)
      → Has (plain_after_all site empty_plain xs).entries h c t → Has (plain_after_all site empty_plain xs).entries k c u
      → (t + site.margin < u) ⊎ (u + site.margin < t)
  -- each route call of the list
  pub routes : Each (RouteTurn file site) xs

-- every list of calls, the empty one included, on a board that an accepted open has made
pub record Demand3 (desk : Desk) : Type 0 where
  pub every_list : (file : List ℕ) (site : Site) → read_site file ≡ accepted site
      → (l : Lent) (d : Done) → desk file l opening d → d.number ≡ 0
      → (xs : List Turn) → Follows desk file d.lent.board xs
      → ListRight file site d.lent.board xs
