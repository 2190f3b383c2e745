-- Wants by their letters.
use Rattle.std.proofs.Common.{◌≡◌, ◌++◌, ◌∷◌, [], ℕ, ◌+◌, List, Bool, true, false, not, nat_lt, cond, length, is_some, unwrap_or, if◌then◌else◌, refl, ap, ◌∙◌, sym}
use Rattle.std.specs.Prelude.{position, Some, None}
use Rattle.std.specs.List.{prefix_len}
use Rattle.std.proofs.lemmas.List.{map-append, length-map, append-nil}
use Rattle.spl_tree.specs.declared.names_and_places.Name.{Name}
use Rattle.hp_instr.specs.declared.instruction.Instr.TheVariants as i
use Rattle.spl_branch.specs.declared.buffer.Code.{Code}
use Rattle.spl_branch.specs.declared.pieces.Piece.TheVariants.{Call}
use Rattle.spl_branch.specs.declared.modules.Want.{Want}
use Rattle.spl_branch.specs.Codes.{SameFrame, same_want, want_place, with_want}
use Rattle.spl_operations.specs.spl_code.Parts.{wants_of, wanted_of, is_wanted, wanted_place, with_wanted, call_wanted}
use Rattle.spl_operations.specs.spl_code.Appends.{Appends}
use Rattle.spl_operations.proofs.spl_code_proofs.AppendLaws.{same_then}

same_prefix : (x : List ℕ) (gate : Bool) (ws : List Want)
    → prefix_len (λ w. not (same_want x gate w)) ws ≡ prefix_len (λ w. not (is_wanted x gate w)) (wants_of ws)
same_prefix x gate [] = refl
same_prefix x gate (w ∷ ws) = ap (λ n. cond (not (same_want x gate w)) (1 + n) 0) (same_prefix x gate ws)

same_position : (x : List ℕ) (gate : Bool) (ws : List Want) → position (same_want x gate) ws ≡ position (is_wanted x gate) (wants_of ws)
same_position x gate ws =
    ap (λ n. cond (nat_lt n (length ws)) (Some n) None) (same_prefix x gate ws)
    ∙ ap (λ l. cond (nat_lt (prefix_len (λ w. not (is_wanted x gate w)) (wants_of ws)) l) (Some (prefix_len (λ w. not (is_wanted x gate w)) (wants_of ws))) None) (sym (length-map ws wanted_of))

pub same_place : (name : Name) (gate : Bool) (ws : List Want) → want_place name gate ws ≡ wanted_place name.text.items gate (wants_of ws)
same_place name gate ws =
    ap (λ o. unwrap_or o (length ws)) (same_position name.text.items gate ws)
    ∙ ap (λ l. unwrap_or (position (is_wanted name.text.items gate) (wants_of ws)) l) (sym (length-map ws wanted_of))

with_by : (name : Name) (gate : Bool) (ws : List Want) (b : Bool)
    → wants_of (if b then ws else ws ++ record { name = name; gate = gate } ∷ [])
    ≡ (if b then wants_of ws else wants_of ws ++ record { name = name.text.items; gate = gate } ∷ [])
with_by name gate ws true = refl
with_by name gate ws false = map-append wanted_of ws (record { name = name; gate = gate } ∷ [])

pub same_wants : (name : Name) (gate : Bool) (ws : List Want) → wants_of (with_want name gate ws) ≡ with_wanted name.text.items gate (wants_of ws)
same_wants name gate ws =
    with_by name gate ws _
    ∙ ap (λ o. if is_some o then wants_of ws else wants_of ws ++ record { name = name.text.items; gate = gate } ∷ []) (same_position name.text.items gate ws)

-- a call of a name that is wanted
pub wanted_appends : (name : Name) (x : List ℕ) (gate : Bool) (k : ℕ) (c d e : Code) → name.text.items ≡ x → k ≡ want_place name gate c.wants.items
    → d.wants.items ≡ with_want name gate c.wants.items → d.pieces ≡ c.pieces → d.marks ≡ c.marks → SameFrame c d
    → e.pieces.items ≡ d.pieces.items ++ Call (i.Control 0 0) true k ∷ [] → e.marks.items ≡ d.marks.items → e.wants ≡ d.wants → SameFrame d e
    → Appends (call_wanted x gate) c e
wanted_appends name x gate k c d e named place wants ps ms same ps2 ms2 wants2 same2 = record {
  pieces = ps2 ∙ ap (λ v. v.items ++ Call (i.Control 0 0) true k ∷ []) ps
      ∙ ap (λ n. c.pieces.items ++ Call (i.Control 0 0) true n ∷ []) (place ∙ same_place name gate c.wants.items ∙ ap (λ y. wanted_place y gate (wants_of c.wants.items)) named);
  marks = ms2 ∙ ap (λ v. v.items) ms ∙ sym (append-nil c.marks.items);
  wants = ap (λ v. wants_of v.items) wants2 ∙ ap wants_of wants ∙ same_wants name gate c.wants.items ∙ ap (λ y. with_wanted y gate (wants_of c.wants.items)) named;
  same = same_then same same2;
}
