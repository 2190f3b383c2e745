-- The laws of this crate.
use Rattle.std.specs.Prelude.{◌≡◌, ◌+◌, ◌<◌, ◌≤◌, ℕ, Bool, List, length, Option, Some, None, slice_get}
use Rattle.hp_leads.specs.spl_tree.declared.names_and_places.At.{At}
use Rattle.hp_leads.specs.spl_branch.declared.pieces.Piece.{Piece}
use Rattle.hp_leads.specs.spl_branch.declared.spots.Spot as module_spot
use Rattle.hp_leads.specs.spl_branch.declared.buffer.Code.{Code}
use Rattle.hp_leads.specs.spl_branch.declared.modules.Module.{Module}
use Rattle.hp_leads.specs.spl_branch.Stands as decoded
use Rattle.hp_leads.specs.spl_branch.Modules.{Finished, LiesAt, sites}
use Rattle.hp_leads.specs.spl_follow.Spots.{on, Ground}
use Rattle.hp_leads.specs.spl_follow.Standing.{Sites, Stands}
use Rattle.spl_stands.specs.Fitting.{placed, point, MarksAgree, AllFit}

-- Words of a segment that stand for pieces stand for them by what the machine does there.
abbrev pub WordsStand : Type 0
WordsStand = (g : Ground) (seg : ℕ) (words : List ℕ) (s : decoded.Sites) (w : Sites) (ps : List Piece) (p q : module_spot.Spot) (due : Option At)
    → slice_get g.segments seg ≡ Some words → MarksAgree seg s w → AllFit g seg s w p due ps → decoded.Stands words s p ps q
    → Stands g w (point seg p due) ps (placed seg q)

-- So does a module that lies in a segment of a program, from its base on: its words stand for the pieces of its code.
abbrev pub ModulesStand : Type 0
ModulesStand = (c : Code) (m : Module) (f : Finished c m) (g : Ground) (seg : ℕ) (segment : List ℕ) (base : ℕ) (entries : Bool → ℕ → ℕ) (w : Sites)
    → slice_get g.segments seg ≡ Some segment → length segment ≤ 16383 → ((wanted : Bool) (index : ℕ) → entries wanted index < 256)
    → LiesAt segment base entries m.words.items m.fixes.items → MarksAgree seg (sites base f.marks entries) w
    → AllFit g seg (sites base f.marks entries) w (decoded.at_left base) None c.pieces.items
    → Stands g w (on (placed seg (decoded.at_left base))) c.pieces.items (placed seg (decoded.at_left (base + length m.words.items)))
