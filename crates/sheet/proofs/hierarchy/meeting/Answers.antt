-- `sheet::hierarchy::meeting` meets its contract. Assumes nothing.
use Rattle.std.proofs.Common.{◌≡◌, ◌<◌, get_or, ◌∙◌, arith}
use Rattle.sets.specs.Sets.{meet, highest}
use Rattle.meaning.specs.Sheet.{n_of, meeting}
use Rattle.sheet.proofs.SheetTestLaws.{head_of, rooted_tree}
use Rattle.sheet.proofs.ContainmentLaws.{meeting_words}
use Rattle.sheet.proofs.hierarchy.meeting.Goals as goal
use Rattle.sheet.proofs.hierarchy.meeting.Goals.{After-target}

-- the modes that contain both ends
common : (c : After-target)
    → let x = meet (get_or c.args.containers.now c.source.result 0) (get_or c.args.containers.now c.target.result 0) in
    (0 < x) × (highest 32 x ≡ meeting c.args.sheet.now c.args.t) × (highest 32 x < n_of c.args.sheet.now)
unfolding meeting
common c =
    rw (c.source.ensures, c.target.ensures)
    (meeting_words _ c.args.containers.now (rooted_tree c.requires.0) (head_of _ c.requires.0.head).n_le c.requires.2 _ _ c.requires.3 c.requires.4 c.requires.5 c.requires.6)

pub offset_bounds-containers-source : goal.offset_bounds-containers-source
offset_bounds-containers-source c = omega (arith, c.source.ensures, c.requires.3, head_of _ c.requires.0.head)

pub bounds-containers-source : goal.bounds-containers-source
bounds-containers-source c = omega (arith, c.source.ensures, c.requires.3, head_of _ c.requires.0.head)

pub offset_bounds-containers-target : goal.offset_bounds-containers-target
offset_bounds-containers-target c = omega (arith, c.target.ensures, c.requires.4, head_of _ c.requires.0.head)

pub bounds-containers-target : goal.bounds-containers-target
bounds-containers-target c = omega (arith, c.target.ensures, c.requires.4, head_of _ c.requires.0.head)

pub highest-requires : goal.highest-requires
highest-requires c = (common (goal.at.highest-requires c).After-target).0

pub returns : goal.returns
returns c = let q = common (goal.at.returns c).After-target in (c.highest.ensures ∙ q.1, rw c.highest.ensures q.2)
