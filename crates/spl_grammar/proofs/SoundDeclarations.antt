-- What is read as a declaration is spelled; a fault comes behind tokens that open it. Of bodies this is assumed.
use Rattle.std.proofs.Common.{ℕ, ◌+◌, ◌≡◌, ◌≤◌, ◌||◌, Bool, true, false, if◌then◌else◌, List, [], ◌∷◌, ◌++◌, Option, Some, None, refl, arith, ◌∙◌, append_assoc, append-nil}
use Rattle.spl_reading.specs.spl_tree.declared.expressions.Kind.{Kind}
use Rattle.spl_reading.specs.spl_tree.declared.expressions.Kind.TheVariants as kind
use Rattle.spl_reading.specs.spl_tree.declared.symbols.Symbol.{Symbol}
use Rattle.spl_reading.specs.spl_tree.declared.symbols.Symbol.TheVariants as s
use Rattle.spl_reading.specs.spl_tree.declared.symbols.Reserved.{Reserved}
use Rattle.spl_reading.specs.spl_tree.declared.symbols.Reserved.TheVariants as w
use Rattle.spl_reading.specs.spl_tree.Symbols.{Lexeme, Is}
use Rattle.spl_reading.specs.spl_tree.Parts as part
use Rattle.spl_reading.specs.spl_tree.Parts.{Part}
use Rattle.spl_reading.specs.spl_tree.OpenDeclarations as od
use Rattle.spl_reading.specs.spl_tree.OpenExpressions as op
use Rattle.spl_reading.specs.spl_tree.OpenExpressions.{Opens, here, inner, OpensAt, nesting}
use Rattle.spl_reading.specs.spl_tree.DeclarationTrees as decl
use Rattle.spl_reading.specs.spl_tree.DeclarationTrees.{Placed, declarations}
use Rattle.spl_reading.specs.spl_tree.Declarations as dl
use Rattle.spl_reading.specs.spl_tree.Declarations.{Options, no_options, is_subroutine, pointers}
use Rattle.spl_reading.specs.Readers.{Parser, followed, ◌>>=◌, pure, refuse, take, repeat, by_symbol, expect}
use Rattle.spl_reading.specs.ReadExpressions.{is}
use Rattle.spl_reading.specs.ReadStatements.{statement}
use Rattle.spl_reading.specs.ReadDeclarations.{separated, names, item, arrays, equal, options, heading, BodyRead, array_data, item_data, behind_heading, procedure, subroutine, owned_by, typed_by, typed, by_word, declaration_by, declaration, declares, more_declarations, declaration_list}
use Rattle.spl_grammar.specs.UnitLaws.{SpelledDeclaration}
use Rattle.spl_grammar.specs.Answers.{Explains, bad}
use Rattle.spl_grammar.proofs.ExplainReaders.{at_here, explain_then, explain_expect, explain_next, explain_pure, explain_bad, explain_symbol, explain_if, explain_along, reached, along, explain_as}
use Rattle.spl_grammar.proofs.ExplainReaders as er
use Rattle.spl_reading.proofs.SameSymbol.{same_is}
use Rattle.spl_grammar.proofs.ExplainLoops.{TurnLeaves, goes_on, ends, repeat_explained}
use Rattle.spl_grammar.proofs.SoundOperands.{is_it, few}
use Rattle.spl_grammar.proofs.SoundLists.{ahead, names_explained, items_explained, arrays_explained, equals_explained}
use Rattle.spl_grammar.proofs.SoundHeadings.{options_explained, HeadingRead, heading_explained, procedure_heading, subroutine_heading}
use Rattle.spl_grammar.proofs.SoundStatements.{statement_explained}
use Rattle.spl_grammar.proofs.LocalDeclarations.{takes_more_declarations}
use Rattle.spl_grammar.proofs.LocalReaders.{IsLocal}

-- what is no subroutine, where none stands before
got_first : {u : Bool} {segment : ℕ} {x : decl.Declaration} {ts rest : List Lexeme}
    → (is_subroutine x || true) ≡ true → dl.Declaration u segment x ts rest
    → SpelledDeclaration u false segment x ts rest
got_first e v = record { spelled = v; fits = e }

-- the same behind an equal list
heading_at : {split : Bool} {h : decl.Heading} {ts us vs : List Lexeme} → us ≡ vs → dl.Heading split h ts us
    → dl.Heading split h ts vs
heading_at q p = rw (← q) p

options_at : {a c : Options} {ts us vs : List Lexeme} → us ≡ vs → dl.OptionList a c ts us → dl.OptionList a c ts vs
options_at q p = rw (← q) p

-- a part that begins where the production does, and of which some tokens have been read
explain_inside : {most : ℕ} {A B : Type 0} {V : A → List Lexeme → Type 0} {W : B → List Lexeme → Type 0} {p q : Part}
    {d n j k : ℕ} {ts mid : List Lexeme} (r : Parser A) (f : A → Parser B) (us : List Lexeme)
    → op.Step p d n ts q j k mid → Explains most V q j k mid (r us)
    → ((a : A) (rest : List Lexeme) → V a rest → Explains most W p d n ts (f a rest))
    → Explains most W p d n ts (followed r f us)
unfolding followed
explain_inside r f us step e h = er.lift f step (r us) e h

-- `body_of` reads the body of a procedure of a segment; u says that procedures may be declared
module _ (most d room : ℕ) (sum : d + room ≡ most + 0) (body_of : ℕ → Parser BodyRead) (u : Bool) where
  -- no more is open than may be
  good : nesting d 0 ≤ most
  good = few d room 0 sum (omega arith)

  -- [OWN] [type] ARRAY arrays, from the word on
  array_data_explained : (own : Bool) (c : Kind) (segment : ℕ) (a : Lexeme) (ts mid us : List Lexeme)
      → dl.Own own ts mid → dl.OptionalKind c mid (a ∷ us) → Is (s.Word w.Array) a
      → Explains most (λ x rest. SpelledDeclaration u false segment x ts rest) (part.declaration u false) d 0 ts
      (array_data room body_of u own c (a ∷ us))
  unfolding array_data
  array_data_explained own c segment a ts mid us o k i = er.taken_explained _
      (explain_then arrays _ (op.of_declaration (od.array_list o k i)) (arrays_explained most d good us) (λ is rest v.
      explain_pure _ rest (got_first refl (dl.Declaration.array o k i v))))

  -- [OWN] type items, behind the type
  item_data_explained : (own : Bool) (c : Kind) (segment : ℕ) (t : Lexeme) (ts us : List Lexeme)
      → dl.Own own ts (t ∷ us) → Is (s.Type c) t
      → Explains most (λ x rest. SpelledDeclaration u false segment x ts rest) (part.declaration u false) d 0 ts
      (item_data room body_of u own c us)
  unfolding item_data
  item_data_explained own c segment t ts us o i = explain_then (separated item) _
      (op.of_declaration (od.simple_items o i)) (items_explained d us good) (λ is rest v.
      explain_pure _ rest (got_first refl (dl.Declaration.simple o i v)))

  -- behind OWN
  owned_explained : (segment : ℕ) (o t : Lexeme) (us : List Lexeme) (k : Symbol) → Is (s.Word w.Own) o → Is k t
      → Explains most (λ x rest. SpelledDeclaration u false segment x (o ∷ t ∷ us) rest) (part.declaration u false) d 0
      (o ∷ t ∷ us) (owned_by room body_of u k (t ∷ us))
  unfolding owned_by
  owned_explained segment o t us (s.Type c) i j = er.taken_explained _
      (explain_symbol _ us (ahead (od.type_mark (dl.Own.given i) j)) good (λ a rest q. rw q (
      explain_if (is (s.Word w.Array) a.symbol) _ _ (a ∷ rest)
      (λ e. array_data_explained true c segment a (o ∷ t ∷ a ∷ rest) (t ∷ a ∷ rest) rest (dl.Own.given i)
      (dl.OptionalKind.given j) (is_it (s.Word w.Array) a e))
      (λ e. item_data_explained true c segment t (o ∷ t ∷ a ∷ rest) (a ∷ rest) (dl.Own.given i) j))))
  owned_explained segment o t us k i j = explain_if (is (s.Word w.Array) k) _ _ (t ∷ us)
      (λ e. array_data_explained true kind.Logical segment t (o ∷ t ∷ us) (t ∷ us) us (dl.Own.given i)
      dl.OptionalKind.absent (j ∙ same_is _ _ e))
      (λ e. explain_bad _ (ahead (od.own i)) good)

  -- SUBROUTINE, from the word on
  subroutine_explained : (after : Bool) (segment : ℕ) (r : Option Kind) (p : Lexeme) (ts us : List Lexeme)
      → dl.Result r ts (p ∷ us) → Is (s.Word w.Subroutine) p
      → Explains most (λ x rest. SpelledDeclaration u after segment x ts rest) (part.declaration u after) d 0 ts
      (subroutine room body_of u segment r (p ∷ us))
  unfolding subroutine
  subroutine_explained after segment r p ts us v i = explain_inside (heading r (λ _. segment)) _ (p ∷ us)
      (op.of_declaration od.subroutine_heading)
      (heading_explained d w.Subroutine r (λ _. segment) p ts us good v i) (λ h mid x.
      explain_then (statement room) _ (op.of_declaration (od.subroutine_statement (subroutine_heading x)))
      (statement_explained room d mid sum) (λ y rest z.
      explain_pure _ rest
      (record { spelled = dl.Declaration.subroutine (subroutine_heading x) z.spelled; fits = refl })))

  -- EQUATE, INTRINSIC and LABEL
  equate_explained : (segment : ℕ) (t : Lexeme) (us : List Lexeme) → Is (s.Word w.Equate) t
      → Explains most (λ x rest. SpelledDeclaration u false segment x (t ∷ us) rest) (part.declaration u false) d 0
      (t ∷ us)
      ((take >>= (λ _. separated equal >>= (λ es. pure (decl.Declaration.equate es)))) (t ∷ us))
  equate_explained segment t us i = er.taken_explained _ (explain_then (separated equal) _
      (op.of_declaration (od.equate_list i)) (equals_explained d us good) (λ es rest v.
      explain_pure _ rest (got_first refl (dl.Declaration.equate i v))))

  -- INTRINSIC names
  intrinsic_explained : (segment : ℕ) (t : Lexeme) (us : List Lexeme) → Is (s.Word w.Intrinsic) t
      → Explains most (λ x rest. SpelledDeclaration u false segment x (t ∷ us) rest) (part.declaration u false) d 0
      (t ∷ us)
      ((take >>= (λ _. names >>= (λ ns. pure (decl.Declaration.intrinsic ns)))) (t ∷ us))
  intrinsic_explained segment t us i = er.taken_explained _ (explain_then names _
      (op.of_declaration (od.intrinsic_names i)) (names_explained d us good) (λ ns rest v.
      explain_pure _ rest (got_first refl (dl.Declaration.intrinsic i v))))

  -- LABEL names
  label_explained : (segment : ℕ) (t : Lexeme) (us : List Lexeme) → Is (s.Word w.Label) t
      → Explains most (λ x rest. SpelledDeclaration u false segment x (t ∷ us) rest) (part.declaration u false) d 0
      (t ∷ us)
      ((take >>= (λ _. names >>= (λ ns. pure (decl.Declaration.label ns)))) (t ∷ us))
  label_explained segment t us i = er.taken_explained _ (explain_then names _
      (op.of_declaration (od.label_names i)) (names_explained d us good) (λ ns rest v.
      explain_pure _ rest (got_first refl (dl.Declaration.label i v))))

  -- type POINTER names, from the second word on
  pointers_explained : (segment : ℕ) (c : Kind) (t p : Lexeme) (us : List Lexeme) → Is (s.Type c) t
      → Is (s.Word w.Pointer) p
      → Explains most (λ x rest. SpelledDeclaration u false segment x (t ∷ p ∷ us) rest) (part.declaration u false) d 0
      (t ∷ p ∷ us) ((take >>= (λ _. names >>= (λ ns. pure (decl.Declaration.data_items false c (pointers ns)))))
      (p ∷ us))
  pointers_explained segment c t p us i j = er.taken_explained _ (explain_then names _
      (op.of_declaration (od.pointer_names i j)) (names_explained d us good) (λ ns rest v.
      explain_pure _ rest (got_first refl (dl.Declaration.pointers_of i j v))))

-- Procedures, in a unit; their bodies are explained.
module _ (most d room : ℕ) (sum : d + room ≡ most + 0) (body_of : ℕ → Parser BodyRead)
    (claim : (segment : ℕ) (ts : List Lexeme)
    → Explains most (λ b rest. dl.Body segment b.0 b.1 ts rest) part.body d 0 ts (body_of segment ts)) where
  -- the body of a procedure without options
  plain_explained : (segment : ℕ) (h : Bool → decl.Heading) (ts mid : List Lexeme) → dl.Heading false (h false) ts mid
      → Explains most (λ x rest. SpelledDeclaration true false segment x ts rest) (part.declaration true false) d 0 ts
      ((body_of (h false).segment >>= (λ b. pure (decl.Declaration.procedure (h false) (declarations b.0) b.1))) mid)
  plain_explained segment h ts mid x = explain_then (body_of (h false).segment) _
      (op.of_declaration (od.procedure_body x)) (claim (h false).segment mid) (λ b rest v.
      explain_pure _ rest (got_first refl (dl.Declaration.procedure x v)))

  -- behind the options of a procedure
  behind_options : (segment : ℕ) (h : Bool → decl.Heading) (a : Options) (p : Lexeme) (ts mid after : List Lexeme)
      → HeadingRead w.Procedure (λ p. p.segment) ts h (p ∷ mid) → Is (s.Word w.Options) p
      → dl.OptionList no_options a mid after
      → Explains most (λ x rest. SpelledDeclaration true false segment x ts rest) (part.declaration true false) d 0 ts
      ((if a.forward then pure (decl.Declaration.forward (h a.split))
      else if a.external then pure (decl.Declaration.external (h a.split))
      else (expect s.Semicolon >>= (λ _. body_of (h a.split).segment >>=
      (λ b. pure (decl.Declaration.procedure (h a.split) (declarations b.0) b.1))))) after)
  behind_options segment h a p ts mid after x i o = let y = procedure_heading a.split x in
      explain_if a.forward _ _ after
      (λ e. explain_pure _ after (got_first refl (dl.Declaration.forward y i o e)))
      (λ e. explain_if a.external _ _ after
      (λ f. explain_pure _ after (got_first refl (dl.Declaration.external y i o f)))
      (λ f. explain_expect s.Semicolon _ after (ahead (od.options_semicolon y i o)) (good most d room sum body_of true)
      (λ k rest q j. let o1 = options_at q o in
      explain_then (body_of (h a.split).segment) _ (op.of_declaration (od.options_body y i o1 e f j))
      (claim (h a.split).segment rest) (λ b more v.
      explain_pure _ more (got_first refl (dl.Declaration.procedure_with y i o1 e f j v))))))

  -- behind the heading of a procedure: options or its body
  behind_heading_explained : (segment : ℕ) (h : Bool → decl.Heading) (ts mid : List Lexeme)
      → HeadingRead w.Procedure (λ p. p.segment) ts h mid
      → Explains most (λ x rest. SpelledDeclaration true false segment x ts rest) (part.declaration true false) d 0 ts
      (behind_heading room body_of true h mid)
  unfolding behind_heading
  behind_heading_explained segment h ts mid x = explain_symbol _ mid
      (ahead (od.procedure_body (procedure_heading false x))) (good most d room sum body_of true) (λ p rest q.
      explain_if (is (s.Word w.Options) p.symbol) _ _ (p ∷ rest)
      (λ e. let i = is_it (s.Word w.Options) p e in let x1 = read_at q x in er.taken_explained _ (
      explain_then options _ (op.of_declaration (od.procedure_options (procedure_heading false x1) i))
      (options_explained d rest (good most d room sum body_of true)) (λ a after o.
      behind_options segment h a p ts rest after x1 i o)))
      (λ e. plain_explained segment h ts (p ∷ rest) (heading_at q (procedure_heading false x))))
    where
      read_at : {h : Bool → decl.Heading} {us vs : List Lexeme} → us ≡ vs
          → HeadingRead w.Procedure (λ p. p.segment) ts h us → HeadingRead w.Procedure (λ p. p.segment) ts h vs
      read_at q p = rw (← q) p

  -- PROCEDURE, from the word on
  procedure_explained : (segment : ℕ) (r : Option Kind) (p : Lexeme) (ts us : List Lexeme)
      → dl.Result r ts (p ∷ us) → Is (s.Word w.Procedure) p
      → Explains most (λ x rest. SpelledDeclaration true false segment x ts rest) (part.declaration true false) d 0 ts
      (procedure room body_of true r (p ∷ us))
  unfolding procedure
  procedure_explained segment r p ts us v i = explain_inside (heading r (λ p. p.segment)) _ (p ∷ us)
      (op.of_declaration od.procedure_heading)
      (heading_explained d w.Procedure r (λ p. p.segment) p ts us (good most d room sum body_of true) v i)
      (λ h mid x. behind_heading_explained segment h ts mid x)

-- Declarations by their first token, where bodies are explained if procedures may be declared.
module _ (most d room : ℕ) (sum : d + room ≡ most + 0) (body_of : ℕ → Parser BodyRead) (u : Bool)
    (claim : u ≡ true → (segment : ℕ) (ts : List Lexeme)
    → Explains most (λ b rest. dl.Body segment b.0 b.1 ts rest) part.body d 0 ts (body_of segment ts)) where
  -- no more is open than may be
  fine : nesting d 0 ≤ most
  fine = good most d room sum body_of u

  -- what is claimed of a declaration
  abbrev Declared : Bool → ℕ → List Lexeme → Parser decl.Declaration → List Lexeme → Type 0
  Declared after segment ts read us = Explains most (λ x rest. SpelledDeclaration u after segment x ts rest)
      (part.declaration u after) d 0 ts (read us)

  -- PROCEDURE, where it may stand; where it may not, it is refused
  procedure_here : (segment : ℕ) (r : Option Kind) (p : Lexeme) (ts us : List Lexeme)
      → dl.Result r ts (p ∷ us) → Is (s.Word w.Procedure) p → Declared false segment ts refuse (p ∷ us)
      → Declared false segment ts (if u then procedure room body_of u r else refuse) (p ∷ us)
  procedure_here segment r p ts us v i refused = explain_if u _ _ (p ∷ us)
      (λ e. rw e (procedure_explained most d room sum body_of (claim e) segment r p ts us v i))
      (λ e. refused)

  -- behind the word of a kind
  typed_explained : (after : Bool) (segment : ℕ) (c : Kind) (t : Lexeme) (us : List Lexeme) → Is (s.Type c) t
      → Declared after segment (t ∷ us) (typed room body_of u after segment c) us
  unfolding typed typed_by
  typed_explained after segment c t us i = explain_symbol _ us
      (er.stepped (op.of_declaration od.subroutine_heading) (ahead (od.heading_word i))) fine (λ p rest q. rw q (
      explain_if (is (s.Word w.Subroutine) p.symbol) _ _ (p ∷ rest)
      (λ e. subroutine_explained most d room sum body_of u after segment (Some c) p (t ∷ p ∷ rest) rest
      (dl.Result.given i) (is_it (s.Word w.Subroutine) p e))
      (λ _. explain_if after _ _ (p ∷ rest)
      (λ _. explain_bad _ (er.stepped (op.of_declaration od.subroutine_heading) (ahead (od.heading_word i))) fine)
      (λ f. rw f (
      explain_if (is (s.Word w.Array) p.symbol) _ _ (p ∷ rest)
      (λ e. array_data_explained most d room sum body_of u false c segment p (t ∷ p ∷ rest) (t ∷ p ∷ rest) rest
      dl.Own.absent (dl.OptionalKind.given i) (is_it (s.Word w.Array) p e))
      (λ _. explain_if (is (s.Word w.Pointer) p.symbol) _ _ (p ∷ rest)
      (λ e. pointers_explained most d room sum body_of u segment c t p rest i (is_it (s.Word w.Pointer) p e))
      (λ _. explain_if (is (s.Word w.Procedure) p.symbol) _ _ (p ∷ rest)
      (λ e. procedure_here segment (Some c) p (t ∷ p ∷ rest) rest (dl.Result.given i) (is_it (s.Word w.Procedure) p e)
      (explain_bad _ (ahead (od.type_mark dl.Own.absent i)) fine))
      (λ _. item_data_explained most d room sum body_of u false c segment t (t ∷ p ∷ rest) (p ∷ rest)
      dl.Own.absent i))))))))

  -- what can't stand behind a subroutine
  first_only : (after : Bool) (segment : ℕ) (ts : List Lexeme) (read : Parser decl.Declaration)
      → Declared false segment ts read ts → Declared after segment ts (if after then refuse else read) ts
  first_only true segment ts read h = explain_bad _ (at_here _ _ _ _) fine
  first_only false segment ts read h = h

  -- OWN, and what stands behind it
  own_explained : (segment : ℕ) (o : Lexeme) (us : List Lexeme) → Is (s.Word w.Own) o
      → Declared false segment (o ∷ us) (take >>= (λ _. by_symbol (owned_by room body_of u))) (o ∷ us)
  own_explained segment o us i = er.taken_explained _ (explain_symbol _ us (ahead (od.own i)) fine (λ t rest q. rw q (
      owned_explained most d room sum body_of u segment o t rest t.symbol i refl)))

  -- a declaration by its reserved word
  word_explained : (after : Bool) (segment : ℕ) (t : Lexeme) (us : List Lexeme) (k : Reserved) → Is (s.Word k) t
      → Declared after segment (t ∷ us) (by_word room body_of u after segment k) (t ∷ us)
  unfolding by_word
  word_explained after segment t us w.Subroutine i = subroutine_explained most d room sum body_of u after segment None t
      (t ∷ us) us dl.Result.absent i
  word_explained after segment t us w.Own i = first_only after segment (t ∷ us) _ (own_explained segment t us i)
  word_explained after segment t us w.Array i = first_only after segment (t ∷ us) _
      (array_data_explained most d room sum body_of u false kind.Logical segment t (t ∷ us) (t ∷ us) us dl.Own.absent
      dl.OptionalKind.absent i)
  word_explained after segment t us w.Equate i = first_only after segment (t ∷ us) _
      (equate_explained most d room sum body_of u segment t us i)
  word_explained after segment t us w.Intrinsic i = first_only after segment (t ∷ us) _
      (intrinsic_explained most d room sum body_of u segment t us i)
  word_explained after segment t us w.Label i = first_only after segment (t ∷ us) _
      (label_explained most d room sum body_of u segment t us i)
  word_explained after segment t us w.Procedure i = first_only after segment (t ∷ us) _
      (procedure_here segment None t (t ∷ us) us dl.Result.absent i (explain_bad _ (at_here _ _ _ _) fine))
  word_explained after segment t us _ i = explain_bad _ (at_here _ _ _ _) fine

  -- a declaration by its first symbol
  declaration_explained_by : (after : Bool) (segment : ℕ) (t : Lexeme) (us : List Lexeme) (k : Symbol) → Is k t
      → Declared after segment (t ∷ us) (declaration_by room body_of u after segment k) (t ∷ us)
  unfolding declaration_by
  declaration_explained_by after segment t us (s.Type c) i = er.taken_explained _
      (typed_explained after segment c t us i)
  declaration_explained_by after segment t us (s.Word k) i = word_explained after segment t us k i
  declaration_explained_by after segment t us _ i = explain_bad _ (at_here _ _ _ _) fine

  -- a declaration
  pub declaration_explained : (after : Bool) (segment : ℕ) (ts : List Lexeme)
      → Explains most (λ x rest. SpelledDeclaration u after segment x ts rest) (part.declaration u after) d 0 ts
      (declaration room body_of u after segment ts)
  unfolding declaration by_symbol
  declaration_explained after segment [] = bad (at_here _ _ _ _) fine
  declaration_explained after segment (t ∷ us) = declaration_explained_by after segment t us t.symbol refl

-- Lists of declarations.

-- the declarations read so far, each with its ";"; the state says whether the last of them is a subroutine
record DeclaredSoFar (u : Bool) (segment : ℕ) (ts : List Lexeme) (r : Bool × List decl.Declaration)
    (now : List Lexeme) : Type 0 where
  pub gives : (more : List decl.Declaration) (rest : List Lexeme) → dl.Declarations u r.0 segment more now rest
      → dl.Declarations u false segment (r.1 ++ more) ts rest
  pub opens : (d : ℕ) → Opens (part.declarations u false) d 0 ts (part.declarations u r.0) d 0 now

-- together they are a list
declared_are : {u : Bool} {segment : ℕ} {ts now : List Lexeme} (r : Bool × List decl.Declaration)
    → DeclaredSoFar u segment ts r now → dl.Declarations u false segment r.1 ts now
declared_are {now = now} r x = rw (← append-nil r.1) (x.gives [] now dl.Declarations.none)

-- and a further one stands with them behind its ";"
declared_then : {u : Bool} {segment : ℕ} {ts us rest : List Lexeme} {k : Lexeme} (r : Bool × List decl.Declaration)
    (y : decl.Declaration) → DeclaredSoFar u segment ts r us → SpelledDeclaration u r.0 segment y us (k ∷ rest)
    → Is s.Semicolon k → DeclaredSoFar u segment ts (is_subroutine y, r.1 ++ y ∷ []) rest
declared_then r y x v i = record {
  gives = λ more end a. rw (append_assoc r.1 (y ∷ []) more)
      (x.gives (y ∷ more) end (dl.Declarations.more v.spelled v.fits i a));
  opens = λ d. along (x.opens d) (inner (op.of_declaration (od.next_declaration v.spelled v.fits i)) here);
}

-- the same behind an equal list
got_at : {u after : Bool} {segment : ℕ} {x : decl.Declaration} {ts us vs : List Lexeme} → us ≡ vs
    → SpelledDeclaration u after segment x ts us → SpelledDeclaration u after segment x ts vs
got_at q p = rw (← q) p

module _ (most d room : ℕ) (sum : d + room ≡ most + 0) (body_of : ℕ → Parser BodyRead) (u : Bool)
    (claim : u ≡ true → (segment : ℕ) (ts : List Lexeme)
    → Explains most (λ b rest. dl.Body segment b.0 b.1 ts rest) part.body d 0 ts (body_of segment ts))
    (local : (segment : ℕ) → IsLocal (body_of segment)) where
  -- what a turn over declarations leaves
  abbrev ListTurn : ℕ → List Lexeme → Bool × (Bool × List decl.Declaration) → List Lexeme → Type 0
  ListTurn segment ts = TurnLeaves (DeclaredSoFar u segment ts) (λ r rest. dl.Declarations u false segment r.1 ts rest)

  -- a further declaration, and its ";"
  further_declaration : (segment : ℕ) (ts : List Lexeme) (r : Bool × List decl.Declaration) (us : List Lexeme)
      → DeclaredSoFar u segment ts r us
      → Explains most (ListTurn segment ts) (part.declarations u false) d 0 ts
      ((declaration room body_of u r.0 segment >>=
      (λ y. expect s.Semicolon >>= (λ _. pure (true, (is_subroutine y, r.1 ++ y ∷ []))))) us)
  further_declaration segment ts r us x = explain_along (declaration room body_of u r.0 segment) _
      (along (x.opens d) (inner (op.of_declaration od.declaration_of) here))
      (declaration_explained most d room sum body_of u claim r.0 segment us) (λ y after v.
      explain_expect s.Semicolon _ after (reached (x.opens d) (ahead (od.declaration_end v.spelled v.fits)))
      (few d room 0 sum (omega arith)) (λ k rest q i.
      explain_pure _ rest (goes_on (declared_then r y x (got_at q v) i))))

  -- one turn of the loop: a further declaration, or the end of the list
  list_turn : (segment : ℕ) (ts : List Lexeme) (r : Bool × List decl.Declaration) (now : List Lexeme)
      → DeclaredSoFar u segment ts r now
      → Explains most (ListTurn segment ts) (part.declarations u false) d 0 ts
      (more_declarations room body_of u segment r now)
  unfolding more_declarations
  list_turn segment ts r now x = explain_symbol _ now (reached (x.opens d) (at_here _ _ _ _))
      (few d room 0 sum (omega arith)) (λ t us q. let x1 = so_far_at q x in
      explain_if (declares room body_of u t.symbol) _ _ (t ∷ us)
      (λ e. further_declaration segment ts r (t ∷ us) x1)
      (λ e. explain_pure _ (t ∷ us) (ends (declared_are r x1))))
    where
      so_far_at : {r : Bool × List decl.Declaration} {us vs : List Lexeme} → us ≡ vs → DeclaredSoFar u segment ts r us
          → DeclaredSoFar u segment ts r vs
      so_far_at q p = rw (← q) p

  -- { decl ";" }
  pub declarations_explained : (segment : ℕ) (ts : List Lexeme)
      → Explains most (λ ds rest. dl.Declarations u false segment ds ts rest) (part.declarations u false) d 0 ts
      (declaration_list room body_of u segment ts)
  unfolding declaration_list
  declarations_explained segment ts = explain_next (repeat (more_declarations room body_of u segment) (false, [])) _ ts
      (repeat_explained most (more_declarations room body_of u segment)
      (takes_more_declarations room body_of u local segment) (part.declarations u false) d 0 ts
      (DeclaredSoFar u segment ts) (λ r rest. dl.Declarations u false segment r.1 ts rest) (list_turn segment ts)
      (false, []) ts (record { gives = λ more rest a. a; opens = λ d. here }))
      (λ r rest v. explain_pure r.1 rest v)
