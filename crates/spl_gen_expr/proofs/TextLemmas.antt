-- Strings in the code.
use Rattle.std.proofs.Common.{◌≡◌, ◌<◌, ℕ, suc, ◌∷◌, [], List, true, false, map, length, refl, subst, arith}
use Rattle.spl_sorts.specs.spl_meaning.Elements.{as_words}
use Rattle.spl_branch.specs.declared.buffer.Code.{Code}
use Rattle.spl_branch.specs.declared.pieces.Piece.TheVariants.{Literal, Place, Mark}
use Rattle.spl_operations.specs.spl_code.Parts.{Part, pieces, piece, nothing, ◌⨟◌}
use Rattle.spl_operations.specs.spl_code.Instructions.{BR, LOAD_BEFORE}
use Rattle.spl_operations.specs.spl_code.Constants.{text_offset}
use Rattle.spl_operations.specs.spl_code.Appends.{Appends}
use Rattle.spl_operations.proofs.spl_code_proofs.AppendLaws.{none_appends}
use Rattle.spl_gen_expr.specs.Marks.{Within, Sets}
use Rattle.spl_gen_expr.proofs.MarkLemmas.{within_start, within_then, within_first, within_second, within_closed}

-- where no byte is left, all words are laid
pub laid_all : (bytes rest : List ℕ) (c d : Code) → length rest < 1
    → ((e : Code) → Appends (pieces (map Literal (as_words rest))) d e → Appends (pieces (map Literal (as_words bytes))) c e)
    → Appends (pieces (map Literal (as_words bytes))) c d
laid_all bytes [] c d lt so = so d (none_appends refl)
laid_all bytes (x ∷ rest) c d lt so = absurd (omega arith)

-- its parts, by the marks behind it and at its start
abbrev text_parts : List ℕ → ℕ → ℕ → Part
text_parts bytes over start =
    piece (BR over) ⨟ piece (Mark start) ⨟ pieces (map Literal (as_words bytes)) ⨟ piece (Place start) ⨟ piece (Mark over) ⨟ piece LOAD_BEFORE

-- a string behind a branch over it, and the load of its offset
pub text_appends : (bytes : List ℕ) (over start : ℕ) (c c0 c1 c2 c3 c4 c5 c6 : Code) → over ≡ length c.marks.items → start ≡ suc (length c.marks.items)
    → Within false false nothing c c0 → Appends (piece (BR over)) c0 c1 → Sets start c1 c2 → Appends (pieces (map Literal (as_words bytes))) c2 c3
    → Appends (piece (Place start)) c3 c4 → Sets over c4 c5 → Appends (piece LOAD_BEFORE) c5 c6 → Appends (text_offset bytes) c c6
text_appends bytes over start c c0 c1 c2 c3 c4 c5 c6 io is w a1 s1 a2 a3 s2 a4 =
    let led : Within true true (text_parts bytes over start) c c6 =
    within_then (within_first (within_then (within_then (within_second (within_start w a1) s1 is) a2) a3) s2 io) a4 in
    within_closed (text_parts bytes)
    (subst (λ l. Within true true (text_parts bytes l (suc (length c.marks.items))) c c6) io (subst (λ m. Within true true (text_parts bytes over m) c c6) is led))
