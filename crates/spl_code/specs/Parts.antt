-- Parts of code: what pieces they have, how many marks they make, and which names they want, each from the marks and wants before it.
use Rattle.std.specs.Prelude.{ℕ, suc, ◌+◌, ◌&&◌, Bool, true, if◌then◌else◌, List, [], ◌∷◌, ◌++◌, length, map, is_some, unwrap_or, position}
use Rattle.std.specs.Bool.{beq}
use Rattle.std.specs.Str.{bytes_eq}
use Rattle.spl_branch.specs.hp_instr.declared.instruction.Instr.TheVariants as i
use Rattle.spl_branch.specs.declared.modules.Want.{Want}
use Rattle.spl_branch.specs.declared.pieces.Piece.{Piece}
use Rattle.spl_branch.specs.declared.pieces.Piece.TheVariants.{Call}

-- a name that a call wants of another module, or of the system
pub record Wanted : Type 0 where
  pub name : List ℕ
  pub gate : Bool

-- a want by its letters
abbrev pub wanted_of : Want → Wanted
wanted_of w = record { name = w.name.text.items; gate = w.gate }

-- all wants of a code
abbrev pub wants_of : List Want → List Wanted
wants_of ws = map wanted_of ws

-- two wants have the same name, and are both or neither intrinsics
abbrev pub is_wanted : List ℕ → Bool → Wanted → Bool
is_wanted name gate w = bytes_eq w.name name && beq w.gate gate

-- the place of a want; behind all where it is not there
abbrev pub wanted_place : List ℕ → Bool → List Wanted → ℕ
wanted_place name gate ws = unwrap_or (position (is_wanted name gate) ws) (length ws)

-- the wants with one more, unless it is there
abbrev pub with_wanted : List ℕ → Bool → List Wanted → List Wanted
with_wanted name gate ws = if is_some (position (is_wanted name gate) ws) then ws else ws ++ record { name = name; gate = gate } ∷ []

-- what a part of code is: its pieces, how many marks it makes, all of which it sets, and the names wanted behind it
pub record Written : Type 0 where
  pub pieces : List Piece
  pub marks : ℕ
  pub wants : List Wanted

-- a part of code, by how many marks were made and which names are wanted before it
abbrev pub Part : Type 0
Part = ℕ → List Wanted → Written

-- pieces that make no mark and want no name
abbrev pub pieces : List Piece → Part
pieces ps l ws = record { pieces = ps; marks = 0; wants = ws }

-- nothing
abbrev pub nothing : Part
nothing = pieces []

-- one piece
abbrev pub piece : Piece → Part
piece x = pieces (x ∷ [])

-- one part, and then another
infixl 10 ◌⨟◌
abbrev pub ◌⨟◌ : Part → Part → Part
(p ⨟ q) l ws =
    let a = p l ws in
    let b = q (l + a.marks) a.wants in
    record { pieces = a.pieces ++ b.pieces; marks = a.marks + b.marks; wants = b.wants }

-- a part with a mark of its own, the next one
abbrev pub with_fresh : (ℕ → Part) → Part
with_fresh p l ws =
    let a = p l (suc l) ws in
    record { pieces = a.pieces; marks = suc a.marks; wants = a.wants }

-- a call of a name of another module or of the system, which is wanted from then on
abbrev pub call_wanted : List ℕ → Bool → Part
call_wanted name gate l ws = record {
  pieces = Call (i.Control 0 0) true (wanted_place name gate ws) ∷ [];
  marks = 0;
  wants = with_wanted name gate ws;
}
