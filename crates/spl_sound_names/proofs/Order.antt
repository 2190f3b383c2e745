-- In a unit that tokens spell only subroutines stand behind a subroutine.
use Rattle.std.proofs.Common.{◌≡◌, ℕ, ◌+◌, ◌||◌, not, Bool, true, false, List, [], Some, refl}
use Rattle.std.specs.List.{slice_get}
use Rattle.std.proofs.Math.Bool.{Bool-set}
use Rattle.std.proofs.Math.Logic.{∥∥₁_elim}
use Rattle.spl_sound.specs.spl_tree.Symbols.{Lexeme}
use Rattle.spl_sound.specs.spl_tree.DeclarationTrees as decl
use Rattle.spl_sound.specs.spl_tree.DeclarationTrees.{UnitTree, declarations}
use Rattle.spl_sound.specs.spl_tree.Declarations as dl
use Rattle.spl_sound.specs.spl_tree.Declarations.{is_subroutine}
use Rattle.spl_sound.specs.spl_tree.Units as un
use Rattle.spl_sound.specs.spl_tree.Units.{Unit_of}
use Rattle.spl_sound.specs.spl_cuts.Lexemes.{lexemes}
use Rattle.spl_sound.specs.spl_reading.Readers.{Got}
use Rattle.spl_sound.specs.spl_grammar.Verdicts.{Verdict, spelled}
use Rattle.spl_sound.specs.spl_meaning.Tables.{Source}
use Rattle.spl_sound.specs.Spelled.{Spelled, AreSpelled}
use Rattle.spl_sound_names.specs.Known.{inner_last}
use Rattle.spl_sound_names.proofs.Tables.{never}

-- a declaration before others that stand as they may
last_step : (after : Bool) (d : decl.Declaration) (ds : decl.Declarations) → (is_subroutine d || not after) ≡ true → inner_last (is_subroutine d) ds ≡ true
    → inner_last after (decl.and d ds) ≡ true
last_step after (decl.Declaration.subroutine h s) ds fits last = last
last_step true (decl.Declaration.data_items own k items) ds fits last = never fits
last_step true (decl.Declaration.equate es) ds fits last = never fits
last_step true (decl.Declaration.intrinsic xs) ds fits last = never fits
last_step true (decl.Declaration.label xs) ds fits last = never fits
last_step true (decl.Declaration.forward h) ds fits last = never fits
last_step true (decl.Declaration.external h) ds fits last = never fits
last_step true (decl.Declaration.procedure h items ss) ds fits last = never fits
last_step false (decl.Declaration.data_items own k items) ds fits last = last
last_step false (decl.Declaration.equate es) ds fits last = last
last_step false (decl.Declaration.intrinsic xs) ds fits last = last
last_step false (decl.Declaration.label xs) ds fits last = last
last_step false (decl.Declaration.forward h) ds fits last = last
last_step false (decl.Declaration.external h) ds fits last = last
last_step false (decl.Declaration.procedure h items ss) ds fits last = last

declarations_last : {u after : Bool} {segment : ℕ} {ds : List decl.Declaration} {ts rest : List Lexeme} → dl.Declarations u after segment ds ts rest
    → inner_last after (declarations ds) ≡ true
declarations_last dl.Declarations.none = refl
declarations_last (dl.Declarations.more {u} {after} {segment} {d} {ds} one fits semicolon others) =
    last_step after d (declarations ds) fits (declarations_last others)

unit_last : {u : UnitTree} {ts : List Lexeme} → Unit_of u ts → inner_last false (declarations u.items) ≡ true
unit_last (un.Unit_of.unit i ds xs z d e) = declarations_last ds

verdict_last : (ts : List Lexeme) (u : UnitTree) → Verdict ts (Got u []) → inner_last false (declarations u.items) ≡ true
verdict_last ts u (spelled w calm) = unit_last w

pub units_last : (us : List Source) → AreSpelled us → (i : ℕ) (u : Source) → slice_get us i ≡ Some u → inner_last false (declarations u.tree.items) ≡ true
units_last us are i u is = ∥∥₁_elim (are i u is) (Bool-set (inner_last false (declarations u.tree.items)) true) (λ (s : Spelled (i + 1) u). verdict_last (lexemes s.listed) u.tree s.spelled)
