-- What is open behind a chain of declarations is read, or it is too deep before. Declarations open nothing themselves, so
-- that only a chain into their statements can have more open; other steps lead to no more than is open around them.
use Rattle.std.proofs.Common.{ℕ, ◌+◌, ◌/◌, ◌≡◌, ◌<◌, ◌≤◌, Bool, List, [], length, refl, arith}
use Rattle.spl_reading.specs.spl_tree.Symbols.{Lexeme}
use Rattle.spl_reading.specs.spl_tree.DeclarationTrees as decl
use Rattle.spl_reading.specs.spl_tree.OpenExpressions as op
use Rattle.spl_reading.specs.spl_tree.OpenExpressions.{limit, nesting}
use Rattle.spl_reading.specs.spl_tree.OpenDeclarations as od
use Rattle.spl_reading.specs.spl_tree.OpenDeclarations.{DeclarationStep, is_begin, begins_block}
use Rattle.spl_reading.specs.spl_tree.Parts as part
use Rattle.spl_reading.specs.spl_tree.Parts.{Part}
use Rattle.spl_reading.specs.Readers.{repeat}
use Rattle.spl_reading.specs.ReadStatements.{statement_list, statement}
use Rattle.spl_reading.specs.ReadDeclarations.{declaration, more_declarations, declaration_list, body, unit}
use Rattle.spl_reading.specs.ReadDeclarations.{bodies}
use Rattle.spl_grammar.proofs.DeclarationFronts.{decl_state}
use Rattle.spl_grammar.proofs.CompletedParts.{Inside, a_constant, a_statement, some_statements, a_mark}
use Rattle.spl_grammar.proofs.CompletedUnits.{Declared, some_names, some_constants, an_item, some_items, an_equal, some_equals, an_array, some_arrays, some_options, a_heading, a_declaration, some_declarations, a_body, a_unit, declared_step}
use Rattle.spl_grammar.proofs.DeepReaders.{Sinks, sink_then}
use Rattle.spl_grammar.proofs.DeepExpressions.{SinksIn}
use Rattle.spl_grammar.proofs.ChainLengths.{chain_shorter}
use Rattle.spl_grammar.proofs.ReachLaws.{chain_sinks}
use Rattle.spl_grammar.proofs.DeepDeclarations.{first_declaration, next_declaration, procedure_body, options_body, subroutine_statement, body_declarations, body_statements, body_statement, unit_declarations, unit_statements}

-- What is claimed.

-- Reading the part with d constructs open around it is too deep where more than n tokens are left, or, at a part that
-- holds no statement, more is open than may be.
abbrev pub DeclaredClaim : ℕ → Part → ℕ → List Lexeme → Type 0
DeclaredClaim n (part.declaration u after) d ts = (room segment : ℕ) → d + room ≡ limit
    → Sinks n (declaration room (bodies room u) u after segment) ts
DeclaredClaim n (part.declarations u after) d ts = (room segment : ℕ) (so_far : List decl.Declaration)
    → d + room ≡ limit → Sinks n (repeat (more_declarations room (bodies room u) u segment) (decl_state after so_far)) ts
DeclaredClaim n part.body d ts = (room segment : ℕ) → d + room ≡ limit → Sinks n (body room segment) ts
DeclaredClaim n part.unit d ts = (room : ℕ) → d + room ≡ limit → Sinks n (unit room) ts
DeclaredClaim n _ d ts = limit < d

pub record SinksDeclared (n : ℕ) (p : Part) (d : ℕ) (ts : List Lexeme) : Type 0 where
  pub claim : DeclaredClaim n p d ts

-- no more is open than may be
full : {A : Type 0} (d room : ℕ) → limit < d → d + room ≡ limit → A
full d room m e = absurd (omega arith)

-- at a mark no more is open than around it
at_mark : {n d : ℕ} {us : List Lexeme} → SinksIn n part.mark d 0 us → limit < d
at_mark o = let a = o.claim in omega arith

-- nor at a constant
at_constant : {n d : ℕ} {us : List Lexeme} → SinksIn n part.constant d 0 us → limit < d
at_constant o = let a = o.claim in omega arith

-- One step: what the part behind it sinks in, the production sinks in too.

-- a declaration that goes no further than a mark
no_declaration : {n d : ℕ} {u after : Bool} {ts us : List Lexeme} → SinksIn n part.mark d 0 us
    → SinksDeclared n (part.declaration u after) d ts
no_declaration {d = d} o = record { claim = λ room segment sum. full d room (at_mark o) sum }

-- nor than a part that holds no statement
no_deeper : {n d : ℕ} {u after : Bool} {ts : List Lexeme} → limit < d → SinksDeclared n (part.declaration u after) d ts
no_deeper {d = d} m = record { claim = λ room segment sum. full d room m sum }

-- a statement
of_statement : {n d : ℕ} {ts : List Lexeme} → SinksIn n part.statement d 0 ts → (room : ℕ) → d + room ≡ limit
    → Sinks n (statement room) ts
of_statement o room sum = o.claim room sum (omega arith)

-- statements
of_list : {n d : ℕ} {ts : List Lexeme} → SinksIn n part.statements d 0 ts → (room : ℕ) → d + room ≡ limit
    → Sinks n (statement_list (statement room)) ts
unfolding statement_list
of_list o room sum = o.claim room [] sum (omega arith)

-- by the step
declaration_sinks : {n d : ℕ} {p q : Part} {ts mid : List Lexeme} → DeclarationStep p ts q mid → n ≤ length mid
    → (Inside q → SinksIn n q d 0 mid) → (Declared q → SinksDeclared n q d mid) → SinksDeclared n p d ts
unfolding declaration_list
declaration_sinks (od.names_comma a) l o v = record { claim = at_mark (o a_mark) }
declaration_sinks (od.names_next a i) l o v = record { claim = (v some_names).claim }
declaration_sinks od.constants_part l o v = record { claim = at_constant (o a_constant) }
declaration_sinks (od.constants_comma a) l o v = record { claim = at_mark (o a_mark) }
declaration_sinks (od.constants_next a i) l o v = record { claim = (v some_constants).claim }
declaration_sinks od.items_part l o v = record { claim = (v an_item).claim }
declaration_sinks (od.items_comma a) l o v = record { claim = at_mark (o a_mark) }
declaration_sinks (od.items_next a i) l o v = record { claim = (v some_items).claim }
declaration_sinks od.equals_part l o v = record { claim = (v an_equal).claim }
declaration_sinks (od.equals_comma a) l o v = record { claim = at_mark (o a_mark) }
declaration_sinks (od.equals_next a i) l o v = record { claim = (v some_equals).claim }
declaration_sinks (od.item_assign i) l o v = record { claim = at_mark (o a_mark) }
declaration_sinks (od.item_value i j) l o v = record { claim = at_constant (o a_constant) }
declaration_sinks (od.equal_mark i) l o v = record { claim = at_mark (o a_mark) }
declaration_sinks (od.equal_value i j) l o v = record { claim = at_constant (o a_constant) }
declaration_sinks (od.equal_sign i j a b) l o v = record { claim = at_mark (o a_mark) }
declaration_sinks (od.equal_term i j a b k e) l o v = record { claim = at_constant (o a_constant) }
declaration_sinks (od.array_open i) l o v = record { claim = at_mark (o a_mark) }
declaration_sinks (od.array_low i j) l o v = record { claim = at_constant (o a_constant) }
declaration_sinks (od.array_colon i j a) l o v = record { claim = at_mark (o a_mark) }
declaration_sinks (od.array_high i j a q) l o v = record { claim = at_constant (o a_constant) }
declaration_sinks (od.array_close i j a q c) l o v = record { claim = at_mark (o a_mark) }
declaration_sinks (od.view_star i j) l o v = record { claim = at_mark (o a_mark) }
declaration_sinks (od.view_close i j k) l o v = record { claim = at_mark (o a_mark) }
declaration_sinks (od.view_equal i j k m) l o v = record { claim = at_mark (o a_mark) }
declaration_sinks (od.view_base i j k m e) l o v = record { claim = at_mark (o a_mark) }
declaration_sinks od.arrays_part l o v = record { claim = (v an_array).claim }
declaration_sinks (od.arrays_mark a) l o v = record { claim = at_mark (o a_mark) }
declaration_sinks (od.arrays_next a i) l o v = record { claim = (v some_arrays).claim }
declaration_sinks (od.arrays_values a i) l o v = record { claim = (v some_constants).claim }
declaration_sinks (od.options_comma i e f) l o v = record { claim = at_mark (o a_mark) }
declaration_sinks (od.options_next i e f k) l o v = record { claim = (v (some_options f)).claim }
declaration_sinks (od.heading_word i) l o v = record { claim = at_mark (o a_mark) }
declaration_sinks (od.heading_name r i) l o v = record { claim = at_mark (o a_mark) }
declaration_sinks (od.heading_mark r i j) l o v = record { claim = at_mark (o a_mark) }
declaration_sinks (od.heading_names r i j k) l o v = record { claim = (v some_names).claim }
declaration_sinks (od.heading_close r i j k m) l o v = record { claim = at_mark (o a_mark) }
declaration_sinks (od.heading_semicolon r i j n) l o v = record { claim = at_mark (o a_mark) }
declaration_sinks (od.heading_values r i j n k m) l o v = record { claim = (v some_names).claim }
declaration_sinks (od.heading_specs r i j n a ss) l o v = record { claim = at_mark (o a_mark) }
declaration_sinks (od.heading_spec r i j n a ss k) l o v = record { claim = at_mark (o a_mark) }
declaration_sinks (od.heading_spec_names r i j n a ss k m) l o v = record { claim = (v some_names).claim }
declaration_sinks (od.heading_spec_array r i j n a ss k m) l o v = record { claim = at_mark (o a_mark) }
declaration_sinks (od.heading_array_names r i j n a ss k f m) l o v = record { claim = (v some_names).claim }
declaration_sinks (od.own i) l o v = no_declaration (o a_mark)
declaration_sinks (od.type_mark w i) l o v = no_declaration (o a_mark)
declaration_sinks (od.simple_items w i) l o v = no_deeper (v some_items).claim
declaration_sinks (od.array_list w k i) l o v = no_deeper (v some_arrays).claim
declaration_sinks (od.pointer_names i j) l o v = no_deeper (v some_names).claim
declaration_sinks (od.equate_list i) l o v = no_deeper (v some_equals).claim
declaration_sinks (od.intrinsic_names i) l o v = no_deeper (v some_names).claim
declaration_sinks (od.label_names i) l o v = no_deeper (v some_names).claim
declaration_sinks od.procedure_heading l o v = no_deeper (v a_heading).claim
declaration_sinks (od.procedure_body h) l o v = record
    { claim = λ room segment sum. procedure_body room segment h l (λ of. (v a_body).claim room of sum) }
declaration_sinks (od.procedure_options h i) l o v = no_deeper (v (some_options refl)).claim
declaration_sinks (od.options_semicolon h i x) l o v = no_declaration (o a_mark)
declaration_sinks (od.options_body h i x e f j) l o v = record
    { claim = λ room segment sum. options_body room segment h i x e f j l (λ of. (v a_body).claim room of sum) }
declaration_sinks od.subroutine_heading l o v = no_deeper (v a_heading).claim
declaration_sinks (od.subroutine_statement h) l o v = record
    { claim = λ room segment sum. subroutine_statement room segment _ _ h l (of_statement (o a_statement) room sum) }
declaration_sinks od.declaration_of l o v = record {
  claim = λ room segment so_far sum.
      first_declaration room (bodies room _) _ _ segment so_far ((v a_declaration).claim room segment sum);
}
declaration_sinks (od.declaration_end {d = x} a e) l o v = record
    { claim = λ room segment so_far sum. full _ room (at_mark (o a_mark)) sum }
declaration_sinks (od.next_declaration a e i) l o v = record {
  claim = λ room segment so_far sum.
      next_declaration room segment _ _ so_far a e i l (λ xs. (v some_declarations).claim room segment xs sum);
}
declaration_sinks (od.body_declarations i) l o v = record {
  claim = λ room segment sum.
      body_declarations room segment i (sink_then _ ((v some_declarations).claim room segment [] sum));
}
declaration_sinks (od.body_statements i ds) l o v = record
    { claim = λ room segment sum. body_statements room segment i ds l (of_list (o some_statements) room sum) }
declaration_sinks (od.body_end i ds xs) l o v = record
    { claim = λ room segment sum. full _ room (at_mark (o a_mark)) sum }
declaration_sinks (od.body_statement e) l o v = record
    { claim = λ room segment sum. body_statement room segment e (of_statement (o a_statement) room sum) }
declaration_sinks (od.unit_declarations i) l o v = record
    { claim = λ room sum. unit_declarations room i l (sink_then _ ((v some_declarations).claim room 0 [] sum)) }
declaration_sinks (od.unit_statements i ds) l o v = record
    { claim = λ room sum. unit_statements room i ds l (of_list (o some_statements) room sum) }
declaration_sinks (od.unit_end i ds xs) l o v = record { claim = λ room sum. full _ room (at_mark (o a_mark)) sum }
declaration_sinks (od.unit_dot i ds xs j) l o v = record { claim = λ room sum. full _ room (at_mark (o a_mark)) sum }
declaration_sinks (od.unit_stop i ds xs j k) l o v = record { claim = λ room sum. full _ room (at_mark (o a_mark)) sum }

-- The whole chain.

-- what a chain has not begun
not_begun : {n d : ℕ} {p : Part} {ts : List Lexeme} → Declared p → limit < d → SinksDeclared n p d ts
not_begun some_names m = record { claim = m }
not_begun some_constants m = record { claim = m }
not_begun an_item m = record { claim = m }
not_begun some_items m = record { claim = m }
not_begun an_equal m = record { claim = m }
not_begun some_equals m = record { claim = m }
not_begun an_array m = record { claim = m }
not_begun some_arrays m = record { claim = m }
not_begun (some_options f) m = record { claim = m }
not_begun a_heading m = record { claim = m }
not_begun {d = d} a_declaration m = record { claim = λ room segment sum. full d room m sum }
not_begun {d = d} some_declarations m = record { claim = λ room segment so_far sum. full d room m sum }
not_begun {d = d} a_body m = record { claim = λ room segment sum. full d room m sum }
not_begun {d = d} a_unit m = record { claim = λ room sum. full d room m sum }

-- where a chain has more open than may be, reading is too deep before its end
pub declared_sinks : {p q : Part} {d k j m : ℕ} {ts rest : List Lexeme} → Declared p → op.Opens p d k ts q j m rest
    → k ≡ 0 → limit < nesting j m → SinksDeclared (length rest) p d ts
declared_sinks {d = d} {k = k} v op.here e w = not_begun v (let a : limit < d + k / 8 = w in omega arith)
declared_sinks {d = d} v (op.inner step c) e w = let s = declared_step v step in
    declaration_sinks s.step (chain_shorter c)
    (λ u. rw (← s.constructs, ← s.operators) (chain_sinks u c w))
    (λ u. rw (← s.constructs) (declared_sinks u c s.operators w))
