-- Function values that read the bodies of procedures and the statements of subroutines, and the rules of declarations
-- by them.
use Rattle.std.specs.Prelude.{ℕ, Bool, true, false, if◌then◌else◌, List, Option, Result, Vec}
use Rattle.std.specs.declared.alloc.Global.{Global}
use denote.Ref.{MutBor}
use Rattle.spl_tree.specs.declared.expressions.Kind.{Kind}
use Rattle.spl_tree.specs.declared.statements.Stmt.{Stmt}
use Rattle.spl_tree.specs.declared.declarations.Decl.{Decl}
use Rattle.spl_tree.specs.declared.symbols.Symbol.{Symbol}
use Rattle.spl_tree.specs.declared.symbols.Reserved.{Reserved}
use Rattle.spl_tree.specs.Symbols.{Lexeme}
use Rattle.spl_tree.specs.declared.symbols.Symbol.TheVariants as s
use Rattle.spl_tree.specs.declared.symbols.Reserved.TheVariants as w
use Rattle.spl_tree.specs.declared.expressions.Kind.TheVariants as kinds
use Rattle.spl_tree.specs.DeclarationTrees as decl
use Rattle.spl_tree.specs.Declarations as dl
use Rattle.spl_tree.specs.Views as view
use Rattle.spl_reading.specs.Readers.{Parser, ◌>>=◌, by_symbol, take, expect, pure, refuse}
use Rattle.spl_reading.specs.ReadExpressions.{is}
use Rattle.spl_reading.specs.ReadStatements as st
use Rattle.spl_reading.specs.ReadDeclarations as r
use Rattle.spl_reading.specs.ReadDeclarations.{bodies}
use Rattle.spl_tokens.specs.declared.faults.Fault.{Fault}
use Rattle.spl_tokens.specs.Reads.{Reads}
use Rattle.spl_listed.specs.Lists as lists

pub record ReadsBodies (room : ℕ) (unit : Bool) (pre : Global → MutBor (List Lexeme) → ℕ → ℕ → Type 0)
    (post : Global → MutBor (List Lexeme) → ℕ → ℕ → Result (Vec Decl Global × Vec Stmt Global) Fault
    → MutBor (List Lexeme) → Type 0) : Type 0 where
  pub callable : (alloc : Global) (old : MutBor (List Lexeme)) (segment : ℕ) → pre alloc old room segment
  pub reads : (alloc : Global) (old new : MutBor (List Lexeme)) (segment : ℕ) (result : Result (Vec Decl Global
      × Vec Stmt Global) Fault)
      → post alloc old room segment result new → Reads lists.body (bodies room unit segment old.now) result new.now

pub record ReadsStatements (room : ℕ) (pre : Global → MutBor (List Lexeme) → ℕ → Type 0)
    (post : Global → MutBor (List Lexeme) → ℕ → Result Stmt Fault → MutBor (List Lexeme) → Type 0) : Type 0 where
  pub callable : (alloc : Global) (old : MutBor (List Lexeme)) → pre alloc old room
  pub reads : (alloc : Global) (old new : MutBor (List Lexeme)) (result : Result Stmt Fault)
      → post alloc old room result new → Reads view.statement (st.statement room old.now) result new.now

-- the rules; in a unit, where the flag says so, procedures are declared
abbrev pub array_data : ℕ → Bool → Bool → Kind → Parser decl.Declaration
array_data room unit own kind = r.array_data room (bodies room unit) unit own kind

abbrev pub item_data : ℕ → Bool → Bool → Kind → Parser decl.Declaration
item_data room unit own kind = r.item_data room (bodies room unit) unit own kind

abbrev pub behind_heading : ℕ → Bool → (Bool → decl.Heading) → Parser decl.Declaration
behind_heading room unit h = r.behind_heading room (bodies room unit) unit h

abbrev pub procedure : ℕ → Bool → Option Kind → Parser decl.Declaration
procedure room unit kind = r.procedure room (bodies room unit) unit kind

abbrev pub subroutine : ℕ → Bool → ℕ → Option Kind → Parser decl.Declaration
subroutine room unit segment kind = r.subroutine room (bodies room unit) unit segment kind

abbrev pub owned : ℕ → Bool → Parser decl.Declaration
owned room unit = by_symbol (r.owned_by room (bodies room unit) unit)

abbrev pub typed : ℕ → Bool → Bool → ℕ → Kind → Parser decl.Declaration
typed room unit after segment kind = r.typed room (bodies room unit) unit after segment kind

abbrev pub by_word : ℕ → Bool → Bool → ℕ → Reserved → Parser decl.Declaration
by_word room unit after segment word = r.by_word room (bodies room unit) unit after segment word

abbrev pub declaration : ℕ → Bool → Bool → ℕ → Parser decl.Declaration
declaration room unit after segment = r.declaration room (bodies room unit) unit after segment

abbrev pub declares : ℕ → Bool → Symbol → Bool
declares room unit k = r.declares room (bodies room unit) unit k

abbrev pub more_declarations : ℕ → Bool → ℕ → Bool × List decl.Declaration
    → Parser (Bool × (Bool × List decl.Declaration))
more_declarations room unit segment s = r.more_declarations room (bodies room unit) unit segment s

abbrev pub declaration_list : ℕ → Bool → ℕ → Parser (List decl.Declaration)
declaration_list room unit segment = r.declaration_list room (bodies room unit) unit segment

-- lists of arrays, variables and pointers
abbrev pub arrays : Bool → Kind → Parser decl.Declaration
arrays own kind = take >>= λ _. r.arrays >>= λ is. pure (decl.Declaration.data_items own kind is)

abbrev pub items : Bool → Kind → Parser decl.Declaration
items own kind = r.separated r.item >>= λ is. pure (decl.Declaration.data_items own kind is)

abbrev pub pointers : Kind → Parser decl.Declaration
pointers kind = take >>= λ _. r.names >>= λ ns. pure (decl.Declaration.data_items false kind (dl.pointers ns))

-- behind OWN, with a kind and without
abbrev pub owned_typed : Kind → Parser decl.Declaration
owned_typed kind = take >>= λ _. by_symbol (λ k. if is (s.Word w.Array) k then arrays true kind else items true kind)

abbrev pub owned_untyped : Parser decl.Declaration
owned_untyped = by_symbol (λ k. if is (s.Word w.Array) k then arrays true kinds.Logical else refuse)

-- a procedure with its body
abbrev pub with_body : ℕ → Bool → decl.Heading → Parser decl.Declaration
with_body room unit h = bodies room unit h.segment
    >>= λ b. pure (decl.Declaration.procedure h (decl.declarations b.0) b.1)

-- a procedure behind its options
abbrev pub optioned : ℕ → Bool → (Bool → decl.Heading) → dl.Options → Parser decl.Declaration
optioned room unit h a = if a.forward then pure (decl.Declaration.forward (h a.split))
    else if a.external then pure (decl.Declaration.external (h a.split)) else (expect s.Semicolon
    >>= λ _. with_body room unit (h a.split))
