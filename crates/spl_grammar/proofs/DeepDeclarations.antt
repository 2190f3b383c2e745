-- Where more is open than may be, reading a declaration, a body or a unit is too deep, one production at a time: only
-- those that hold a statement can be.
use Rattle.std.proofs.Common.{ℕ, ◌≡◌, ◌≢◌, ◌||◌, not, ◌≤◌, Bool, true, false, List, [], ◌∷◌, ◌++◌, length, refl, arith, ap}
use Rattle.spl_reading.specs.spl_tree.declared.symbols.Symbol.{Symbol}
use Rattle.spl_reading.specs.spl_tree.declared.symbols.Symbol.TheVariants as s
use Rattle.spl_reading.specs.spl_tree.declared.symbols.Reserved.TheVariants as wd
use Rattle.spl_reading.specs.spl_tree.Symbols.{Lexeme, Is}
use Rattle.spl_reading.specs.spl_tree.StatementTrees as stat
use Rattle.spl_reading.specs.spl_tree.DeclarationTrees as decl
use Rattle.spl_reading.specs.spl_tree.Declarations as dl
use Rattle.spl_reading.specs.spl_tree.Declarations.{Options, no_options, is_subroutine}
use Rattle.spl_reading.specs.spl_tree.OpenDeclarations.{is_begin, begins_block}
use Rattle.spl_reading.specs.Readers.{Outcome, Got, Bad, Parser, and_then, followed, pure, refuse, by_symbol, repeat, turns, same_symbol, symbol_number, reserved_number}
use Rattle.spl_reading.specs.ReadExpressions.{is}
use Rattle.spl_reading.specs.ReadStatements.{more_statements, statement_list, by_word, statement_by, statement_step, statement}
use Rattle.spl_reading.specs.ReadDeclarations.{BodyRead, options, behind_heading, procedure, subroutine, typed_by, typed, declaration_by, declaration, declares, more_declarations, declaration_list, body, unit}
use Rattle.spl_reading.specs.ReadDeclarations as rd
use Rattle.spl_grammar.specs.Answers.{DeepBefore, deep}
use Rattle.spl_reading.specs.ReadDeclarations.{bodies}
use Rattle.spl_grammar.proofs.DeclarationTokens as dt
use Rattle.spl_grammar.proofs.LocalReaders.{IsLocal, local_refuse}
use Rattle.spl_grammar.proofs.LocalStatements.{local_statement, local_list}
use Rattle.spl_grammar.proofs.LocalDeclarations.{takes_more_declarations, local_body}
use Rattle.spl_grammar.proofs.NearReaders.{Near, near_then, near_pure, near_expect, near_turn, same_self}
use Rattle.spl_grammar.proofs.FirstTokens.{Begins, with_first}
use Rattle.spl_reading.proofs.SameSymbol.{same_is}
use Rattle.spl_grammar.proofs.ExpressionClaims.{stays}
use Rattle.spl_grammar.proofs.CompleteParts.{semicolon}
use Rattle.spl_grammar.proofs.CompleteHeadings.{goes_on, options_read}
use Rattle.spl_grammar.proofs.CompleteStatements.{down, inside, statement_is}
use Rattle.spl_grammar.proofs.DeclarationFronts.{heading_read, no_start, start_goes, start_option, option_goes, choose_then, decl_state}
use Rattle.spl_grammar.proofs.CompleteUnits.{declaration_read, declaration_first, inner_read, inner_first, inner_list_read, declaration_list_read, body_read, of_unit, of_units, same_sort, segment_read}
use Rattle.spl_grammar.proofs.DeepReaders.{Sinks, sink_then, sink_behind, sink_on, sink_symbol, sink_head, sink_if, sink_else, sink_take, not_bad, sink_turn}
use Rattle.spl_grammar.proofs.DeepExpressions.{some_token}
use Rattle.spl_grammar.proofs.DeepStatements.{first_else}

-- What a statement that is not empty can't begin with.

-- where no statement begins, an empty one is read
nothing_by : (test : Symbol → Bool) → test s.Name ≡ false → test s.AtSign ≡ false → test (s.Word wd.Begin) ≡ false
    → test (s.Word wd.If) ≡ false → test (s.Word wd.While) ≡ false → test (s.Word wd.Do) ≡ false
    → test (s.Word wd.For) ≡ false → test (s.Word wd.Case) ≡ false → test (s.Word wd.Go) ≡ false
    → test (s.Word wd.Goto) ≡ false → test (s.Word wd.Return) ≡ false → test (s.Word wd.Move) ≡ false
    → test (s.Word wd.Scan) ≡ false → (room below : ℕ) (inner : Parser stat.Statement) (k : Symbol) → test k ≡ true
    → statement_by room below inner k ≡ pure stat.Statement.empty
unfolding statement_by by_word
nothing_by test a b c d e f g h i j k l m room below inner s.Name v = cc
nothing_by test a b c d e f g h i j k l m room below inner s.AtSign v = cc
nothing_by test a b c d e f g h i j k l m room below inner (s.Word wd.Begin) v = cc
nothing_by test a b c d e f g h i j k l m room below inner (s.Word wd.If) v = cc
nothing_by test a b c d e f g h i j k l m room below inner (s.Word wd.While) v = cc
nothing_by test a b c d e f g h i j k l m room below inner (s.Word wd.Do) v = cc
nothing_by test a b c d e f g h i j k l m room below inner (s.Word wd.For) v = cc
nothing_by test a b c d e f g h i j k l m room below inner (s.Word wd.Case) v = cc
nothing_by test a b c d e f g h i j k l m room below inner (s.Word wd.Go) v = cc
nothing_by test a b c d e f g h i j k l m room below inner (s.Word wd.Goto) v = cc
nothing_by test a b c d e f g h i j k l m room below inner (s.Word wd.Return) v = cc
nothing_by test a b c d e f g h i j k l m room below inner (s.Word wd.Move) v = cc
nothing_by test a b c d e f g h i j k l m room below inner (s.Word wd.Scan) v = cc
nothing_by test a b c d e f g h i j k l m room below inner (s.Word _) v = refl
nothing_by test a b c d e f g h i j k l m room below inner _ v = refl

-- and so the reader answers
empty_by : (room : ℕ) (t : Lexeme) (us : List Lexeme)
    → statement_by room (down room) (inside room) t.symbol ≡ pure stat.Statement.empty
    → statement room (t ∷ us) ≡ Got stat.Statement.empty (t ∷ us)
unfolding statement_step by_symbol pure
empty_by room t us e = rw (statement_is room, e) refl

-- what goes on with a heading begins no statement
empty_at_start : (room : ℕ) (t : Lexeme) (us : List Lexeme) → no_start t.symbol ≡ true
    → statement room (t ∷ us) ≡ Got stat.Statement.empty (t ∷ us)
unfolding same_symbol symbol_number reserved_number
empty_at_start room t us e = empty_by room t us (nothing_by no_start refl refl refl refl refl refl refl refl
    refl refl refl refl refl room (down room) (inside room) t.symbol e)

-- nor does what declares something
empty_at_declaration : (body_of : ℕ → Parser BodyRead) (u : Bool) (room : ℕ) (t : Lexeme) (us : List Lexeme)
    → declares room body_of u t.symbol ≡ true → statement room (t ∷ us) ≡ Got stat.Statement.empty (t ∷ us)
unfolding declares
empty_at_declaration body_of u room t us e = empty_by room t us (nothing_by (declares room body_of u)
    refl refl refl refl refl refl refl refl refl refl refl refl refl room (down room) (inside room) t.symbol e)

-- what is read is not too deep
not_got : {A B : Type 0} {n : ℕ} {p : Parser A} {a : A} {ts us : List Lexeme} → p ts ≡ Got a us → Sinks n p ts → B
not_got {A} {B} {n = n} {p = p} {a = a} {ts = ts} {us = us} e d = go (p ts) e d.sinks
  where
    go : (o : Outcome A) → o ≡ Got a us → DeepBefore n o → B
    go _ e (deep l) = cc

-- a statement that is too deep begins with none of these
statement_begins : {n : ℕ} (room : ℕ) {ts : List Lexeme} → Sinks n (statement room) ts → Begins no_start false ts
statement_begins {n = n} room {ts = ts} d = some_token (Begins no_start false) ts (local_statement room) d
    (λ t us d. go t us d (no_start t.symbol) refl)
  where
    go : (t : Lexeme) (us : List Lexeme) → Sinks n (statement room) (t ∷ us) → (b : Bool) → no_start t.symbol ≡ b
        → Begins no_start false (t ∷ us)
    go t us d false e = with_first e
    go t us d true e = not_got (empty_at_start room t us e) d

-- nor does a body
body_begins : {n : ℕ} (room segment : ℕ) {ts : List Lexeme} → Sinks n (body room segment) ts → Begins no_start false ts
unfolding body by_symbol followed and_then refuse same_symbol symbol_number reserved_number
body_begins {n = n} room segment {ts = ts} d = some_token (Begins no_start false) ts (local_body room segment) d
    (λ t us d. go t us d (no_start t.symbol) refl)
  where
    go : (t : Lexeme) (us : List Lexeme) → Sinks n (body room segment) (t ∷ us) → (b : Bool) → no_start t.symbol ≡ b
        → Begins no_start false (t ∷ us)
    go t us d false e = with_first e
    go t us d true e = by_first (is (s.Word wd.Begin) t.symbol) refl
      where
        by_first : (b : Bool) → is (s.Word wd.Begin) t.symbol ≡ b → Begins no_start false (t ∷ us)
        by_first true f = let i = ap no_start (same_is t.symbol (s.Word wd.Begin) f) in cc
        by_first false f = not_bad {us = t ∷ us} (rw (f, empty_at_start room t us e) refl) d

-- what declares something separates no statements
declares_no_semicolon : (body_of : ℕ → Parser BodyRead) (u : Bool) (room : ℕ) (t : Lexeme)
    → declares room body_of u t.symbol ≡ true → is s.Semicolon t.symbol ≡ false
unfolding declares
declares_no_semicolon body_of u room t e = go (is s.Semicolon t.symbol) refl
  where
    go : (b : Bool) → is s.Semicolon t.symbol ≡ b → is s.Semicolon t.symbol ≡ false
    go false f = f
    go true f = let i = ap (declares room body_of u) (same_is t.symbol s.Semicolon f) in cc

-- where no further statement follows, statements end
list_ends : (inner : Parser stat.Statement) (xs : List stat.Statement) (t : Lexeme) (us : List Lexeme)
    → is s.Semicolon t.symbol ≡ false → repeat (more_statements inner) xs (t ∷ us) ≡ Got xs (t ∷ us)
unfolding repeat turns more_statements by_symbol followed and_then pure
list_ends inner xs t us e = rw e refl

-- statements that are too deep begin with no declaration
list_begins : {n : ℕ} (body_of : ℕ → Parser BodyRead) (u : Bool) (room : ℕ) {ts : List Lexeme}
    → Sinks n (statement_list (statement room)) ts → Begins (declares room body_of u) false ts
unfolding statement_list followed and_then
list_begins {n = n} body_of u room {ts = ts} d = some_token (Begins (declares room body_of u) false) ts
    (local_list (statement room) (local_statement room)) d (λ t us d. go t us d (declares room body_of u t.symbol) refl)
  where
    go : (t : Lexeme) (us : List Lexeme) → Sinks n (statement_list (statement room)) (t ∷ us) → (b : Bool)
        → declares room body_of u t.symbol ≡ b → Begins (declares room body_of u) false (t ∷ us)
    go t us d false e = with_first e
    go t us d true e = not_got {a = stat.Statement.empty ∷ []} {us = t ∷ us}
        (rw (empty_at_declaration body_of u room t us e) (list_ends (statement room) (stat.Statement.empty ∷ []) t us (declares_no_semicolon body_of u room t e))) d

-- Declarations.

-- what declares nothing is refused
undeclared : (room : ℕ) (body_of : ℕ → Parser BodyRead) (u after : Bool) (segment : ℕ) (k : Symbol)
    → declares room body_of u k ≡ false → declaration_by room body_of u after segment k ≡ refuse
unfolding declares declaration_by rd.by_word
undeclared room body_of u after segment (s.Type c) e = cc
undeclared room body_of u after segment (s.Word wd.Subroutine) e = cc
undeclared room body_of u after segment (s.Word wd.Own) e = cc
undeclared room body_of u after segment (s.Word wd.Array) e = cc
undeclared room body_of u after segment (s.Word wd.Equate) e = cc
undeclared room body_of u after segment (s.Word wd.Intrinsic) e = cc
undeclared room body_of u after segment (s.Word wd.Label) e = cc
undeclared room body_of u after segment (s.Word wd.Procedure) e = cc
undeclared room body_of u after segment (s.Word _) e = refl
undeclared room body_of u after segment _ e = refl

-- and so the reader answers
declaration_refused : (room : ℕ) (body_of : ℕ → Parser BodyRead) (u after : Bool) (segment : ℕ) (t : Lexeme)
    (us : List Lexeme) → declares room body_of u t.symbol ≡ false → declaration room body_of u after segment (t ∷ us) ≡ Bad (t ∷ us)
unfolding declaration by_symbol refuse
declaration_refused room body_of u after segment t us e = rw (undeclared room body_of u after segment t.symbol e) refl

-- the first of some declarations, by whether its first token declares something
first_by : {n : ℕ} (room : ℕ) (body_of : ℕ → Parser BodyRead) (u after : Bool) (segment : ℕ)
    (so_far : List decl.Declaration) {t : Lexeme} {us : List Lexeme} → Sinks n (declaration room body_of u after segment) (t ∷ us) → (b : Bool)
    → declares room body_of u t.symbol ≡ b
    → Sinks n (repeat (more_declarations room body_of u segment) (decl_state after so_far)) (t ∷ us)
unfolding more_declarations
first_by room body_of u after segment so_far d true e = sink_turn _ (sink_head _ (sink_if _ e (sink_then _ d)))
first_by room body_of u after segment so_far {t = t} {us = us} d false e = not_bad
    (declaration_refused room body_of u after segment t us e) d

-- there is one
pub first_declaration : {n : ℕ} (room : ℕ) (body_of : ℕ → Parser BodyRead) (u after : Bool) (segment : ℕ)
    (so_far : List decl.Declaration) {ts : List Lexeme} → Sinks n (declaration room body_of u after segment) ts
    → Sinks n (repeat (more_declarations room body_of u segment) (decl_state after so_far)) ts
unfolding declaration by_symbol
first_declaration room body_of u after segment so_far {ts = []} d = not_bad {us = []} refl d
first_declaration room body_of u after segment so_far {ts = t ∷ us} d =
    first_by room body_of u after segment so_far d _ refl

-- a declaration that is whole is read, in a unit and in a body
pub one_declaration : (room segment : ℕ) (u after : Bool) {d : decl.Declaration} {k : Lexeme} {ts rest : List Lexeme}
    → dl.Declaration u segment d ts (k ∷ rest) → (is_subroutine d || not after) ≡ true → Is s.Semicolon k
    → Near (declaration room (bodies room u) u after segment) ts (k ∷ rest) (Got d (k ∷ rest))
one_declaration room segment true after x e i = declaration_read room (body room) segment (body_read room) after x i e
one_declaration room segment false after x e i = inner_read room segment after x i e

-- and its first token says that it is one
one_first : (room segment : ℕ) (u : Bool) {d : decl.Declaration} {ts rest : List Lexeme}
    → dl.Declaration u segment d ts rest → Begins (declares room (bodies room u) u) true ts
one_first room segment true x = declaration_first room (body room) segment (body_read room) x
one_first room segment false x = inner_first room segment x

-- bodies depend on no token behind their end
pub local_bodies : (room : ℕ) (u : Bool) (n : ℕ) → IsLocal (bodies room u n)
local_bodies room true n = local_body room n
local_bodies room false n = local_refuse

-- the next of some declarations, each read for the segment of the reader
pub next_declaration : {n : ℕ} (room segment : ℕ) (u after : Bool) (so_far : List decl.Declaration) {old : ℕ}
    {d : decl.Declaration} {k : Lexeme} {ts mid : List Lexeme} → dl.Declaration u old d ts (k ∷ mid)
    → (is_subroutine d || not after) ≡ true → Is s.Semicolon k → n ≤ length mid
    → ((xs : List decl.Declaration)
    → Sinks n (repeat (more_declarations room (bodies room u) u segment) (decl_state (is_subroutine d) xs)) mid)
    → Sinks n (repeat (more_declarations room (bodies room u) u segment) (decl_state after so_far)) ts
unfolding more_declarations
next_declaration {n = n} room segment u after so_far {d = d} {k = k} {ts = ts} {mid = mid} x e i l h =
    go (of_unit x) (rw (same_sort segment d) e) (λ xs. rw (same_sort segment d) (h xs))
  where
    go : {c : decl.Declaration} → dl.Declaration u segment c ts (k ∷ mid) → (is_subroutine c || not after) ≡ true
        → ((xs : List decl.Declaration)
        → Sinks n (repeat (more_declarations room (bodies room u) u segment) (decl_state (is_subroutine c) xs)) mid)
        → Sinks n (repeat (more_declarations room (bodies room u) u segment) (decl_state after so_far)) ts
    go {c = c} x e h = let r = one_declaration room segment u after x e i in let b = r.within in
        sink_on (near_turn {v = decl_state (is_subroutine c) (so_far ++ c ∷ [])}
        (takes_more_declarations room (bodies room u) u (local_bodies room u) segment) (omega arith)
        (choose_then (declares room (bodies room u) u) _ (one_first room segment u x)
        (near_then _ r (near_then _ (near_expect i) (near_pure _ _)))) stays) l (h (so_far ++ c ∷ []))

-- Procedures and subroutines.

-- what stands behind the heading of a procedure
behind_procedure : {n : ℕ} (room segment : ℕ) {split : Bool} {h : decl.Heading} {ts mid : List Lexeme}
    → dl.Heading split h ts mid → Begins goes_on false mid → n ≤ length mid
    → ((f : Bool → decl.Heading) → Sinks n (behind_heading room (body room) true f) mid)
    → Sinks n (declaration room (body room) true false segment) ts
unfolding declaration declaration_by typed typed_by rd.by_word procedure same_symbol symbol_number reserved_number
behind_procedure room segment (dl.Heading.heading dl.Result.absent p i ns vs ss k) b l d = sink_symbol _ p
    (sink_behind _ (heading_read (λ p. p.segment) i ns vs ss k b) l (d _))
behind_procedure room segment (dl.Heading.heading (dl.Result.given r) p i ns vs ss k) b l d = sink_symbol _ r
    (sink_take _ (sink_symbol _ p (sink_behind _ (heading_read (λ p. p.segment) i ns vs ss k b) l (d _))))

-- its body
pub procedure_body : {n : ℕ} (room segment : ℕ) {h : decl.Heading} {ts mid : List Lexeme} → dl.Heading false h ts mid
    → n ≤ length mid → ((of : ℕ) → Sinks n (body room of) mid)
    → Sinks n (declaration room (body room) true false segment) ts
unfolding behind_heading
procedure_body room segment h l d = let b = body_begins room 0 (d 0) in behind_procedure room segment h (start_goes b) l
    (λ f. first_else (is (s.Word wd.Options)) _ (start_option b) (sink_then _ (d (f false).segment)))

-- its body behind options
pub options_body : {n : ℕ} (room segment : ℕ) {a : Options} {h : decl.Heading} {p k : Lexeme}
    {ts mid next : List Lexeme} → dl.Heading a.split h ts (p ∷ mid) → Is (s.Word wd.Options) p → dl.OptionList no_options a mid (k ∷ next)
    → a.forward ≡ false → a.external ≡ false → Is s.Semicolon k → n ≤ length next
    → ((of : ℕ) → Sinks n (body room of) next) → Sinks n (declaration room (body room) true false segment) ts
unfolding behind_heading
options_body room segment {a = a} h p o e g j l d = let m = dt.shorter_options o in
    behind_procedure room segment h (option_goes p) (omega arith)
    (λ f. sink_symbol _ p (sink_if _ (same_self (s.Word wd.Options)) (sink_take _
    (sink_behind _ (options_read o (semicolon j)) (omega arith) (sink_else _ e (sink_else _ g
    (sink_behind _ (near_expect j) l (sink_then _ (d (f a.split).segment)))))))))

-- the statement of a subroutine
pub subroutine_statement : {n : ℕ} (room segment : ℕ) (u after : Bool) {old : ℕ} {h : decl.Heading}
    {ts mid : List Lexeme} → dl.SubroutineHeading old h ts mid → n ≤ length mid → Sinks n (statement room) mid
    → Sinks n (declaration room (bodies room u) u after segment) ts
unfolding declaration declaration_by typed typed_by rd.by_word subroutine same_symbol symbol_number reserved_number
subroutine_statement room segment u after (dl.SubroutineHeading.heading dl.Result.absent p i ns vs ss k) l d =
    let b = start_goes (statement_begins room d) in
    sink_symbol _ p (sink_behind _ (heading_read (λ _. segment) i ns vs ss k b) l (sink_then _ d))
subroutine_statement room segment u after (dl.SubroutineHeading.heading (dl.Result.given r) p i ns vs ss k) l d =
    let b = start_goes (statement_begins room d) in sink_symbol _ r (sink_take _
    (sink_symbol _ p (sink_behind _ (heading_read (λ _. segment) i ns vs ss k b) l (sink_then _ d))))

-- Bodies and units.

-- the declarations of a body
pub body_declarations : {n : ℕ} (room segment : ℕ) {b : Lexeme} {ts : List Lexeme} → Is (s.Word wd.Begin) b
    → Sinks n (declaration_list room (bodies room false) false segment) ts → Sinks n (body room segment) (b ∷ ts)
unfolding body
body_declarations room segment i d = sink_symbol _ i
    (sink_if _ (same_self (s.Word wd.Begin)) (sink_take _ (sink_then _ d)))

-- and its statements
pub body_statements : {n : ℕ} (room segment : ℕ) {old : ℕ} {ds : List decl.Declaration} {b : Lexeme}
    {ts mid : List Lexeme} → Is (s.Word wd.Begin) b → dl.Declarations false false old ds ts mid → n ≤ length mid
    → Sinks n (statement_list (statement room)) mid → Sinks n (body room segment) (b ∷ ts)
unfolding body
body_statements room segment i l w d = sink_symbol _ i (sink_if _ (same_self (s.Word wd.Begin)) (sink_take _
    (sink_behind _ (inner_list_read room segment (of_units segment l) (list_begins (bodies room false) false room d)) w
    (sink_then _ d))))

-- no BEGIN stands first
no_begin : (t : Lexeme) → is_begin t.symbol ≡ false → is (s.Word wd.Begin) t.symbol ≡ false
no_begin t e = go (is (s.Word wd.Begin) t.symbol) refl
  where
    go : (b : Bool) → is (s.Word wd.Begin) t.symbol ≡ b → is (s.Word wd.Begin) t.symbol ≡ false
    go false f = f
    go true f = let i = ap is_begin (same_is t.symbol (s.Word wd.Begin) f) in cc

-- the one statement that is a body
pub body_statement : {n : ℕ} (room segment : ℕ) {ts : List Lexeme} → begins_block ts ≡ false
    → Sinks n (statement room) ts → Sinks n (body room segment) ts
unfolding body
body_statement {n = n} room segment {ts = ts} e d = some_token
    (λ us. begins_block us ≡ false → Sinks n (body room segment) us) ts (local_statement room) d (λ t us d e. sink_head _ (sink_else _ (no_begin t e) (sink_then _ d))) e

-- the declarations of a unit
pub unit_declarations : {n : ℕ} (room : ℕ) {b : Lexeme} {ts : List Lexeme} → Is (s.Word wd.Begin) b → n ≤ length ts
    → Sinks n (declaration_list room (bodies room true) true 0) ts → Sinks n (unit room) (b ∷ ts)
unfolding unit
unit_declarations room i l d = sink_behind _ (near_expect i) l (sink_then _ d)

-- a list with a first token is not empty
not_empty : {test : Symbol → Bool} {b : Bool} {ts : List Lexeme} → Begins test b ts → length ts ≢ 0
not_empty (with_first e) = λ z. omega arith

-- and its statements
pub unit_statements : {n : ℕ} (room : ℕ) {old : ℕ} {ds : List decl.Declaration} {b : Lexeme} {ts mid : List Lexeme}
    → Is (s.Word wd.Begin) b → dl.Declarations true false old ds ts mid → n ≤ length mid
    → Sinks n (statement_list (statement room)) mid → Sinks n (unit room) (b ∷ ts)
unfolding unit
unit_statements room i l w d = let b = list_begins (body room) true room d in let m = dt.no_longer_declarations l in
    sink_behind _ (near_expect i) (omega arith)
    (sink_behind _ (declaration_list_read room (body room) 0 (body_read room) (local_body room) (of_units 0 l) b) w
    (sink_behind _ (segment_read (not_empty b)) w (sink_then _ d)))
