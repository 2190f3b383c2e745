-- The laws of this crate.
use Rattle.std.specs.Prelude.{◌≡◌, ◌+◌, ◌<◌, ◌≤◌, ℕ, Bool, true, false, List, length, Some, None, slice_get}
use Rattle.std.specs.List.{list_all}
use Rattle.mpe_segmenter.specs.hp_program.declared.program.Program.{Program}
use Rattle.mpe_segmenter.specs.hp_program.Programs.{segments_of}
use Rattle.spl_stands.specs.hp_steady.Laws.{WordsAreNear}
use Rattle.mpe_segmenter.specs.spl_branch.declared.pieces.Piece.{Piece}
use Rattle.mpe_segmenter.specs.spl_branch.declared.buffer.Code.{Code}
use Rattle.mpe_segmenter.specs.spl_branch.declared.modules.Module.{Module}
use Rattle.mpe_segmenter.specs.spl_branch.Pieces.{named, is_set_if}
use Rattle.mpe_segmenter.specs.spl_branch.Fixes.{starts_of}
use Rattle.mpe_segmenter.specs.spl_branch.Stands as decoded
use Rattle.mpe_segmenter.specs.spl_branch.Modules.{Finished, LiesAt, sites}
use Rattle.mpe_segmenter.specs.Names.{parts}
use Rattle.mpe_segmenter.specs.Counts.{sizes}
use Rattle.mpe_segmenter.specs.Sites.{IsModule, module_entries, Links}
use Rattle.spl_stands.specs.spl_follow.Spots.{on, Ground}
use Rattle.spl_stands.specs.spl_follow.Standing.{Sites, Stands}
use Rattle.spl_stands.specs.Fitting.{placed, MarksAgree, AllFit}
use Rattle.spl_sites.specs.Beginnings.{begins_well, is_of_kind}
use Rattle.spl_sites.specs.Grounds.{started, ground_of, AllCallsLead}

-- In the words of a module the ground of its program has that module's starts, moved by its base, and no others.
abbrev pub GroundsSayStarts : Type 0
GroundsSayStarts = (p : Program) (near : WordsAreNear p) (ms : List Module) (seg : ℕ) (front : List Module) (m : Module) (back : List Module)
    → IsModule (parts ms) seg front m back → (k : ℕ) → sizes front ≤ k → k < sizes front + m.size
    → (ground_of p near ms).starts seg k ≡ started (sizes front) m.starts.items k

-- Words of a segment of at most 16,383 words stand for pieces from one left half to another. Where the pieces begin well, have instructions of
-- their kinds and name marks that are set, where their calls lead, and where the ground has their starts and no others, they fit.
abbrev pub StartsFit : Type 0
StartsFit = (g : Ground) (seg : ℕ) (segment : List ℕ) (s : decoded.Sites) (w : Sites) (ps : List Piece) (marks : List Bool) (from to : ℕ)
    → slice_get g.segments seg ≡ Some segment → seg < 256 → length segment ≤ 16383 → ((l : ℕ) → is_set_if marks (Some l) ≡ true → s.marks l ≤ to) → to ≤ 16383
    → ((k : ℕ) → from ≤ k → k < to → g.starts seg k ≡ started 0 (starts_of s.marks (decoded.at_left from) ps) k)
    → begins_well false ps ≡ true → list_all is_of_kind ps ≡ true → list_all (λ x. is_set_if marks (named x)) ps ≡ true
    → AllCallsLead g.segments seg s w ps → decoded.Stands segment s (decoded.at_left from) ps (decoded.at_left to)
    → AllFit g seg s w (decoded.at_left from) None ps

-- So the pieces of a finished module fit the ground of its program, where they begin well, have instructions of their kinds, name marks that are
-- set, and where their calls lead.
abbrev pub ModulesFit : Type 0
ModulesFit = (p : Program) (near : WordsAreNear p) (ms : List Module) (seg : ℕ) (front : List Module) (m : Module) (back : List Module)
    → IsModule (parts ms) seg front m back → (c : Code) (f : Finished c m) (segment : List ℕ) (entries : Bool → ℕ → ℕ) (w : Sites)
    → slice_get (ground_of p near ms).segments seg ≡ Some segment → ((wanted : Bool) (index : ℕ) → entries wanted index < 256)
    → LiesAt segment (sizes front) entries m.words.items m.fixes.items
    → begins_well false c.pieces.items ≡ true → list_all is_of_kind c.pieces.items ≡ true
    → list_all (λ x. is_set_if c.marks.items (named x)) c.pieces.items ≡ true
    → AllCallsLead (ground_of p near ms).segments seg (sites (sizes front) f.marks entries) w c.pieces.items
    → AllFit (ground_of p near ms) seg (sites (sizes front) f.marks entries) w (decoded.at_left (sizes front)) None c.pieces.items

-- So in a program of modules, whose segments hold these with their entries put in, the pieces of each finished module stand from its base to its
-- end, by what the machine does there.
abbrev pub ProgramsStand : Type 0
ProgramsStand = (p : Program) (near : WordsAreNear p) (ms : List Module) → Links (parts ms) (segments_of p)
    → (seg : ℕ) (front : List Module) (m : Module) (back : List Module) → IsModule (parts ms) seg front m back → (c : Code) (f : Finished c m) (w : Sites)
    → MarksAgree seg (sites (sizes front) f.marks (module_entries front m back)) w
    → begins_well false c.pieces.items ≡ true → list_all is_of_kind c.pieces.items ≡ true
    → list_all (λ x. is_set_if c.marks.items (named x)) c.pieces.items ≡ true
    → AllCallsLead (segments_of p) seg (sites (sizes front) f.marks (module_entries front m back)) w c.pieces.items
    → Stands (ground_of p near ms) w (on (placed seg (decoded.at_left (sizes front)))) c.pieces.items
    (placed seg (decoded.at_left (sizes front + length m.words.items)))
