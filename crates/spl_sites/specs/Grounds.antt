-- The ground of a program that is made of modules: its segments, and where the statements of its modules start.
use Rattle.std.specs.Prelude.{ℕ, ◌+◌, ◌==◌, nat_lt, if◌then◌else◌, List, [], ◌∷◌, slice_get, Option, None, Some}
use Rattle.mpe_segmenter.specs.spl_tree.declared.names_and_places.At.{At}
use Rattle.mpe_segmenter.specs.hp_program.declared.program.Program.{Program}
use Rattle.mpe_segmenter.specs.hp_program.Programs.{segments_of}
use Rattle.spl_stands.specs.hp_steady.Laws.{WordsAreNear}
use Rattle.mpe_segmenter.specs.spl_branch.declared.pieces.Piece.{Piece}
use Rattle.mpe_segmenter.specs.spl_branch.declared.pieces.Piece.TheVariants.{Call}
use Rattle.mpe_segmenter.specs.spl_branch.declared.modules.Start.{Start}
use Rattle.mpe_segmenter.specs.spl_branch.declared.modules.Module.{Module}
use Rattle.mpe_segmenter.specs.spl_branch.Stands as decoded
use Rattle.mpe_segmenter.specs.Names.{Part, parts}
use Rattle.spl_stands.specs.spl_follow.Spots.{Ground}
use Rattle.spl_stands.specs.spl_follow.Standing.{Sites}
use Rattle.spl_stands.specs.Fitting.{CallLeads}

-- ---- starts

-- the statement that starts at an offset of a segment, where the words of these starts' module stand from `base` on
abbrev pub started : ℕ → List Start → ℕ → Option At
started base [] k = None
started base (s ∷ ss) k = if base + s.offset == k then Some s.at else started base ss k

-- the statement that starts at an offset, of modules one behind the other from `base` on: the one in whose words it is says what starts there
abbrev pub modules_started : ℕ → List Module → ℕ → Option At
modules_started base [] k = None
modules_started base (m ∷ ms) k =
    if nat_lt k (base + m.size) then started base m.starts.items k else modules_started (base + m.size) ms k

-- of a segment; none starts in a segment that is not there
abbrev pub segment_started : Option Part → ℕ → Option At
segment_started None k = None
segment_started (Some p) k = modules_started 0 p.modules k

-- a program's segments, which are near, and the starts of the modules of which it is made
abbrev pub ground_of : (p : Program) → WordsAreNear p → List Module → Ground
ground_of p near ms = record {
  segments = segments_of p;
  starts = λ seg k. segment_started (slice_get (parts ms) seg) k;
  short = λ seg offset v is. (near seg offset v is).0;
}

-- ---- calls

-- the entry of a call leads where its piece does
abbrev pub LeadsIfCall : List (List ℕ) → ℕ → decoded.Sites → Sites → Piece → Type 0
LeadsIfCall segments seg s w (Call by wanted index) = CallLeads segments seg by (s.entries wanted index) (w.ways wanted index)
LeadsIfCall segments seg s w x = Unit {0}

abbrev pub AllCallsLead : List (List ℕ) → ℕ → decoded.Sites → Sites → List Piece → Type 0
AllCallsLead segments seg s w [] = Unit {0}
AllCallsLead segments seg s w (x ∷ ps) = LeadsIfCall segments seg s w x × AllCallsLead segments seg s w ps
