-- What is spelled as a declaration, a body or a unit is read, unless it is too deep before its end.
use Rattle.std.proofs.Common.{ℕ, ◌≡◌, ◌||◌, not, Bool, true, false, List, [], ◌∷◌, ◌++◌, length, Option, refl, arith, ap, sym, append_assoc, append-nil, map, ◌≢◌}
use Rattle.spl_reading.specs.spl_tree.declared.expressions.Kind.{Kind}
use Rattle.spl_reading.specs.spl_tree.declared.symbols.Symbol.TheVariants as s
use Rattle.spl_reading.specs.spl_tree.declared.symbols.Reserved.TheVariants as w
use Rattle.spl_reading.specs.spl_tree.Symbols.{Lexeme, Is}
use Rattle.spl_reading.specs.spl_tree.DeclarationTrees as decl
use Rattle.spl_reading.specs.spl_tree.DeclarationTrees.{Placed}
use Rattle.spl_reading.specs.spl_tree.Declarations as dl
use Rattle.spl_reading.specs.spl_tree.Declarations.{Separated, one, more, Options, both, fit, option_of, no_options, can_be_body, is_subroutine, pointers}
use Rattle.spl_reading.specs.Readers.{Outcome, Got, Parser, ◌>>=◌, pure, refuse, repeat, same_symbol, symbol_number, reserved_number}
use Rattle.spl_reading.specs.ReadExpressions.{is}
use Rattle.spl_reading.specs.ReadDeclarations.{more_parts, separated, name, names, item, shape, array, with_values, more_arrays, arrays, more_terms, equal, by_token, option_among, option_behind, more_options, options, parameters, spec_names, spec_behind, spec_by, more_specs, heading_tail, heading, BodyRead, array_data, item_data, behind_heading, procedure, subroutine, owned_by, typed_by, typed, by_word, declaration_by, declaration, declares, more_declarations, declaration_list, body, next_segment, of_segment}
use Rattle.spl_reading.specs.ReadDeclarations as rd
use Rattle.spl_grammar.proofs.NearReaders.{Near, near_same, near_to, near_then, near_pure, near_take, near_symbol, near_if, near_else, near_expect, near_turn, near_last, same_self}
use Rattle.spl_grammar.proofs.CompleteParts.{Ends, semicolon, choose_else, names_read, items_read, equals_read, arrays_read}
use Rattle.spl_grammar.proofs.CompleteHeadings.{goes_on, options_read}
use Rattle.spl_grammar.proofs.CompleteStatements.{complete_statement, complete_list, list_read}
use Rattle.spl_grammar.proofs.StatementTokens as tk
use Rattle.spl_grammar.proofs.LocalDeclarations.{takes_more_declarations, local_body}
use Rattle.spl_grammar.proofs.LocalReaders.{local_refuse, IsLocal}
use Rattle.spl_grammar.specs.Following as af
use Rattle.spl_reading.specs.spl_tree.StatementTrees as stat
use Rattle.spl_reading.specs.spl_tree.Statements as st
use Rattle.spl_reading.specs.spl_tree.Units.{segment_at, Unit_of, unit}
use Rattle.spl_reading.specs.spl_tree.DeclarationTrees.{declarations, UnitTree}
use Rattle.spl_grammar.proofs.FirstTokens.{Begins, by_is}
pub use Rattle.spl_grammar.proofs.DeclarationFronts.{FirstIs, by_first, items_first, heading_of, specs_no_open, values_no_open, heading_read, no_start, both_false, reference_first, target_first, effect_first, statement_first, body_first, single_no_begin, start_goes, start_option, statement_declares, list_first, not_after, ends_of, body_pair, option_goes, fit_list, fit_one, no_forward, heading_first, choose_then, decl_state, after_all, unit_tree_of, first_is}

-- Declarations, where bodies are read by their claim.
module _ (room : ℕ) (body_of : ℕ → Parser BodyRead) where
  module _ (u : Bool) (segment : ℕ) where
    item_data_read : {own : Bool} {c : Kind} {is : List decl.Item} {ts rest : List Lexeme} → dl.Items is ts rest
        → Ends rest
        → Near (item_data room body_of u own c) ts rest (Got (decl.Declaration.data_items own c is) rest)
    unfolding item_data
    item_data_read l e = near_then _ (items_read l e) (near_pure _ _)

    array_data_read : {own : Bool} {c : Kind} {is : List decl.Item} {t : Lexeme} {ts rest : List Lexeme}
        → dl.Arrays is ts rest → Ends rest
        → Near (array_data room body_of u own c) (t ∷ ts) rest (Got (decl.Declaration.data_items own c is) rest)
    unfolding array_data
    array_data_read l e = near_then _ near_take (near_then _ (arrays_read l e) (near_pure _ _))

    simple_read : {own : Bool} {c : Kind} {is : List decl.Item} {t : Lexeme} {ts mid rest : List Lexeme}
        → dl.Own own ts (t ∷ mid) → Is (s.Type c) t → dl.Items is mid rest → Ends rest
        → Near (declaration room body_of u false segment) ts rest (Got (decl.Declaration.data_items own c is) rest)
    unfolding declaration declaration_by typed typed_by by_word owned_by same_symbol symbol_number reserved_number
    simple_read dl.Own.absent i l e = near_symbol _ i
        (near_then _ near_take (by_first _ (items_first l) (item_data_read l e)))
    simple_read (dl.Own.given o) i l e = near_symbol _ o
        (near_then _ near_take (near_symbol _ i
        (near_then _ near_take (by_first _ (items_first l) (item_data_read l e)))))

    array_decl_read : {own : Bool} {c : Kind} {is : List decl.Item} {a : Lexeme} {ts mid next rest : List Lexeme}
        → dl.Own own ts mid → dl.OptionalKind c mid (a ∷ next) → Is (s.Word w.Array) a
        → dl.Arrays is next rest → Ends rest
        → Near (declaration room body_of u false segment) ts rest (Got (decl.Declaration.data_items own c is) rest)
    unfolding declaration declaration_by typed typed_by by_word owned_by same_symbol symbol_number reserved_number
    array_decl_read dl.Own.absent dl.OptionalKind.absent i l e = near_symbol _ i (array_data_read l e)
    array_decl_read dl.Own.absent (dl.OptionalKind.given k) i l e = near_symbol _ k
        (near_then _ near_take (near_symbol _ i (array_data_read l e)))
    array_decl_read (dl.Own.given o) dl.OptionalKind.absent i l e = near_symbol _ o
        (near_then _ near_take (near_symbol _ i (array_data_read l e)))
    array_decl_read (dl.Own.given o) (dl.OptionalKind.given k) i l e = near_symbol _ o
        (near_then _ near_take (near_symbol _ k (near_then _ near_take (near_symbol _ i (array_data_read l e)))))

    pointers_read : {c : Kind} {ns : List Placed} {t p : Lexeme} {ts rest : List Lexeme} → Is (s.Type c) t
        → Is (s.Word w.Pointer) p → dl.Names ns ts rest → Ends rest
        → Near (declaration room body_of u false segment) (t ∷ p ∷ ts) rest
        (Got (decl.Declaration.data_items false c (pointers ns)) rest)
    unfolding declaration declaration_by typed typed_by same_symbol symbol_number reserved_number
    pointers_read i p l e = near_symbol _ i
        (near_then _ near_take (near_symbol _ p (near_then _ near_take (near_then _ (names_read l e) (near_pure _ _)))))

    equate_read : {es : List decl.Equal} {t : Lexeme} {ts rest : List Lexeme} → Is (s.Word w.Equate) t
        → dl.Equals es ts rest → Ends rest
        → Near (declaration room body_of u false segment) (t ∷ ts) rest (Got (decl.Declaration.equate es) rest)
    unfolding declaration declaration_by by_word
    equate_read i l e = near_symbol _ i (near_then _ near_take (near_then _ (equals_read l e) (near_pure _ _)))

    intrinsic_read : {ns : List Placed} {t : Lexeme} {ts rest : List Lexeme} → Is (s.Word w.Intrinsic) t
        → dl.Names ns ts rest → Ends rest
        → Near (declaration room body_of u false segment) (t ∷ ts) rest (Got (decl.Declaration.intrinsic ns) rest)
    unfolding declaration declaration_by by_word
    intrinsic_read i l e = near_symbol _ i (near_then _ near_take (near_then _ (names_read l e) (near_pure _ _)))

    label_read : {ns : List Placed} {t : Lexeme} {ts rest : List Lexeme} → Is (s.Word w.Label) t → dl.Names ns ts rest
        → Ends rest
        → Near (declaration room body_of u false segment) (t ∷ ts) rest (Got (decl.Declaration.label ns) rest)
    unfolding declaration declaration_by by_word
    label_read i l e = near_symbol _ i (near_then _ near_take (near_then _ (names_read l e) (near_pure _ _)))

    -- [type] SUBROUTINE, from its word on
    subroutine_read : {r : Option Kind} {ns vs : List Placed} {ss : List decl.Spec} {x : stat.Statement}
        {p t k z : Lexeme} {ts after_names after_values mid rest : List Lexeme} → Is s.Name t
        → dl.Parameters ns ts after_names → dl.Values vs after_names after_values → dl.Specs ss after_values (k ∷ mid)
        → Is s.Semicolon k → st.Statement x mid (z ∷ rest) → Is s.Semicolon z
        → Near (subroutine room body_of u segment r) (p ∷ t ∷ ts) (z ∷ rest)
        (Got (decl.Declaration.subroutine (heading_of r t ns vs ss segment false) x) (z ∷ rest))
    unfolding subroutine same_symbol symbol_number reserved_number
    subroutine_read i ns vs ss k x z = near_then _
        (heading_read (λ _. segment) i ns vs ss k
        (statement_declares refl refl refl refl refl refl refl refl refl refl refl refl refl x
        (by_is _ _ _ _ _ z refl)))
        (near_then _ ((complete_statement x (af.semicolon z)).reads room) (near_pure _ _))

    subroutine_decl : (after : Bool) {h : decl.Heading} {x : stat.Statement} {z : Lexeme} {ts mid rest : List Lexeme}
        → dl.SubroutineHeading segment h ts mid → st.Statement x mid (z ∷ rest) → Is s.Semicolon z
        → Near (declaration room body_of u after segment) ts (z ∷ rest)
        (Got (decl.Declaration.subroutine h x) (z ∷ rest))
    unfolding declaration declaration_by typed typed_by by_word same_symbol symbol_number reserved_number
    subroutine_decl after (dl.SubroutineHeading.heading dl.Result.absent p i ns vs ss k) x z = near_symbol _ p
        (subroutine_read i ns vs ss k x z)
    subroutine_decl after (dl.SubroutineHeading.heading (dl.Result.given r) p i ns vs ss k) x z = near_symbol _ r
        (near_then _ near_take (near_symbol _ p (subroutine_read i ns vs ss k x z)))

  module _ (segment : ℕ) (claim : (n : ℕ) (ds : List decl.Declaration) (xs : List stat.Statement) (k : Lexeme)
      (ts rest : List Lexeme) → dl.Body n ds xs ts (k ∷ rest) → Is s.Semicolon k
      → Near (body_of n) ts (k ∷ rest) (Got (body_pair ds xs) (k ∷ rest))) where
    -- a heading and what stands behind it, at its word PROCEDURE
    procedure_at : {split : Bool} {h : decl.Heading} {ts mid rest : List Lexeme} {y : Outcome decl.Declaration}
        → dl.Heading split h ts mid → Begins goes_on false mid
        → ((f : Bool → decl.Heading) → f split ≡ h → Near (behind_heading room body_of true f) mid rest y)
        → Near (declaration room body_of true false segment) ts rest y
    unfolding declaration declaration_by typed typed_by by_word procedure same_symbol symbol_number reserved_number
    procedure_at (dl.Heading.heading dl.Result.absent p i ns vs ss k) b n = near_symbol _ p
        (near_then _ (heading_read (λ p. p.segment) i ns vs ss k b) (n _ refl))
    procedure_at (dl.Heading.heading (dl.Result.given r) p i ns vs ss k) b n = near_symbol _ r
        (near_then _ near_take (near_symbol _ p
        (near_then _ (heading_read (λ p. p.segment) i ns vs ss k b) (n _ refl))))

    body_behind : {h : decl.Heading} {ds : List decl.Declaration} {xs : List stat.Statement} {k : Lexeme}
        {mid rest : List Lexeme} (g : decl.Heading) → g ≡ h → dl.Body h.segment ds xs mid (k ∷ rest)
        → Is s.Semicolon k → Near (body_of g.segment >>=
        (λ b. pure (decl.Declaration.procedure g (declarations b.0) b.1))) mid (k ∷ rest)
        (Got (decl.Declaration.procedure h (declarations ds) xs) (k ∷ rest))
    body_behind {h = h} {ds = ds} {xs = xs} {k = k} {mid = mid} {rest = rest} g q b i = near_then _
        (claim g.segment ds xs k mid rest (rw q b) i)
        (near_to (near_pure _ _) (ap (λ g. Got (decl.Declaration.procedure g (declarations ds) xs) (k ∷ rest)) q))

    plain_procedure : {h : decl.Heading} {ds : List decl.Declaration} {xs : List stat.Statement} {k : Lexeme}
        {ts mid rest : List Lexeme} → dl.Heading false h ts mid → dl.Body h.segment ds xs mid (k ∷ rest)
        → Is s.Semicolon k → Near (declaration room body_of true false segment) ts (k ∷ rest)
        (Got (decl.Declaration.procedure h (declarations ds) xs) (k ∷ rest))
    unfolding behind_heading
    plain_procedure h b k = procedure_at h (start_goes (body_first b))
        (λ f q. choose_else (is (s.Word w.Options)) _ (start_option (body_first b)) (body_behind (f false) q b k))

    with_options : {a : Options} {h : decl.Heading} {ds : List decl.Declaration} {xs : List stat.Statement}
        {p j k : Lexeme} {ts mid next rest : List Lexeme} → dl.Heading a.split h ts (p ∷ mid)
        → Is (s.Word w.Options) p → dl.OptionList no_options a mid (j ∷ next) → a.forward ≡ false → a.external ≡ false
        → Is s.Semicolon j → dl.Body h.segment ds xs next (k ∷ rest) → Is s.Semicolon k
        → Near (declaration room body_of true false segment) ts (k ∷ rest)
        (Got (decl.Declaration.procedure h (declarations ds) xs) (k ∷ rest))
    unfolding behind_heading
    with_options {a = a} h p o e g j b k = procedure_at h (option_goes p)
        (λ f q. near_symbol _ p (near_if _ (same_self (s.Word w.Options))
        (near_then _ near_take (near_then _ (options_read o (semicolon j))
        (near_else _ e (near_else _ g (near_then _ (near_expect j) (body_behind (f a.split) q b k))))))))

    forward_read : {a : Options} {h : decl.Heading} {p k : Lexeme} {ts mid rest : List Lexeme}
        → dl.Heading a.split h ts (p ∷ mid) → Is (s.Word w.Options) p → dl.OptionList no_options a mid (k ∷ rest)
        → a.forward ≡ true → Is s.Semicolon k
        → Near (declaration room body_of true false segment) ts (k ∷ rest)
        (Got (decl.Declaration.forward h) (k ∷ rest))
    unfolding behind_heading
    forward_read {a = a} {k = k} {rest = rest} h p o e i = procedure_at h (option_goes p)
        (λ f q. near_symbol _ p (near_if _ (same_self (s.Word w.Options))
        (near_then _ near_take (near_then _ (options_read o (semicolon i))
        (near_if _ e (near_to (near_pure _ _) (ap (λ g. Got (decl.Declaration.forward g) (k ∷ rest)) q)))))))

    external_read : {a : Options} {h : decl.Heading} {p k : Lexeme} {ts mid rest : List Lexeme}
        → dl.Heading a.split h ts (p ∷ mid) → Is (s.Word w.Options) p → dl.OptionList no_options a mid (k ∷ rest)
        → a.external ≡ true → Is s.Semicolon k
        → Near (declaration room body_of true false segment) ts (k ∷ rest)
        (Got (decl.Declaration.external h) (k ∷ rest))
    unfolding behind_heading
    external_read {a = a} {k = k} {rest = rest} h p o e i = procedure_at h (option_goes p)
        (λ f q. near_symbol _ p (near_if _ (same_self (s.Word w.Options))
        (near_then _ near_take (near_then _ (options_read o (semicolon i))
        (near_else _ (no_forward o e) (near_if _ e
        (near_to (near_pure _ _) (ap (λ g. Got (decl.Declaration.external g) (k ∷ rest)) q))))))))

    -- a declaration that fits its place
    pub declaration_read : {u : Bool} {d : decl.Declaration} {k : Lexeme} {ts rest : List Lexeme} (after : Bool)
        → dl.Declaration u segment d ts (k ∷ rest) → Is s.Semicolon k
        → (is_subroutine d || not after) ≡ true
        → Near (declaration room body_of u after segment) ts (k ∷ rest) (Got d (k ∷ rest))
    declaration_read after (dl.Declaration.simple o i l) k e = rw (not_after after e)
        (simple_read _ segment o i l (semicolon k))
    declaration_read after (dl.Declaration.array o c i l) k e = rw (not_after after e)
        (array_decl_read _ segment o c i l (semicolon k))
    declaration_read after (dl.Declaration.pointers_of i p l) k e = rw (not_after after e)
        (pointers_read _ segment i p l (semicolon k))
    declaration_read after (dl.Declaration.equate i l) k e = rw (not_after after e)
        (equate_read _ segment i l (semicolon k))
    declaration_read after (dl.Declaration.intrinsic i l) k e = rw (not_after after e)
        (intrinsic_read _ segment i l (semicolon k))
    declaration_read after (dl.Declaration.label i l) k e = rw (not_after after e)
        (label_read _ segment i l (semicolon k))
    declaration_read after (dl.Declaration.procedure h b) k e = rw (not_after after e) (plain_procedure h b k)
    declaration_read after (dl.Declaration.procedure_with h p o f g j b) k e = rw (not_after after e)
        (with_options h p o f g j b k)
    declaration_read after (dl.Declaration.forward h p o f) k e = rw (not_after after e) (forward_read h p o f k)
    declaration_read after (dl.Declaration.external h p o f) k e = rw (not_after after e) (external_read h p o f k)
    declaration_read after (dl.Declaration.subroutine h x) k e = subroutine_decl _ segment after h x k

    pub declaration_first : {u : Bool} {d : decl.Declaration} {ts rest : List Lexeme} → dl.Declaration u segment d ts rest
        → Begins (declares room body_of u) true ts
    unfolding declares
    declaration_first (dl.Declaration.simple dl.Own.absent i l) = by_is _ _ _ _ _ i refl
    declaration_first (dl.Declaration.simple (dl.Own.given o) i l) = by_is _ _ _ _ _ o refl
    declaration_first (dl.Declaration.array dl.Own.absent dl.OptionalKind.absent i l) = by_is _ _ _ _ _ i refl
    declaration_first (dl.Declaration.array dl.Own.absent (dl.OptionalKind.given c) i l) = by_is _ _ _ _ _ c refl
    declaration_first (dl.Declaration.array (dl.Own.given o) c i l) = by_is _ _ _ _ _ o refl
    declaration_first (dl.Declaration.pointers_of i p l) = by_is _ _ _ _ _ i refl
    declaration_first (dl.Declaration.equate i l) = by_is _ _ _ _ _ i refl
    declaration_first (dl.Declaration.intrinsic i l) = by_is _ _ _ _ _ i refl
    declaration_first (dl.Declaration.label i l) = by_is _ _ _ _ _ i refl
    declaration_first (dl.Declaration.procedure h b) = heading_first h (λ c. refl) refl
    declaration_first (dl.Declaration.procedure_with h p o f g j b) = heading_first h (λ c. refl) refl
    declaration_first (dl.Declaration.forward h p o f) = heading_first h (λ c. refl) refl
    declaration_first (dl.Declaration.external h p o f) = heading_first h (λ c. refl) refl
    declaration_first (dl.Declaration.subroutine (dl.SubroutineHeading.heading dl.Result.absent p i ns vs ss k) x) =
        by_is _ _ _ _ _ p refl
    declaration_first (dl.Declaration.subroutine (dl.SubroutineHeading.heading (dl.Result.given r) p i ns vs ss k) x) =
        by_is _ _ _ _ _ r refl

    -- the declarations of a unit or a body
    declarations_read : {u after : Bool} {ds : List decl.Declaration} {ts rest : List Lexeme}
        → (lb : (n : ℕ) → IsLocal (body_of n)) → dl.Declarations u after segment ds ts rest
        → Begins (declares room body_of u) false rest → (so_far : List decl.Declaration)
        → Near (repeat (more_declarations room body_of u segment) (decl_state after so_far)) ts rest
        (Got (decl_state (after_all after ds) (so_far ++ ds)) rest)
    unfolding more_declarations
    declarations_read {after = after} {rest = rest} lb dl.Declarations.none b so_far = near_to
        (near_last _ (choose_else (declares room body_of _) _ b (near_pure _ _)))
        (ap (λ xs. Got (decl_state after xs) rest) (sym (append-nil so_far)))
    declarations_read {u = u} {after = after} {rest = rest} lb
        (dl.Declarations.more {d = d} {ds = ds} {mid = mid} x e k l) b so_far =
        let r = declaration_read after x k e in
        near_turn {v = decl_state (is_subroutine d) (so_far ++ d ∷ [])} {m = mid}
        (takes_more_declarations room body_of u lb segment) (let n = r.within in omega arith)
        (choose_then (declares room body_of u) _ (declaration_first x)
        (near_then _ r (near_then _ (near_expect k) (near_pure _ _))))
        (near_to (declarations_read lb l b (so_far ++ d ∷ []))
        (ap (λ xs. Got (decl_state (after_all (is_subroutine d) ds) xs) rest) (append_assoc so_far (d ∷ []) ds)))

    pub declaration_list_read : {u : Bool} {ds : List decl.Declaration} {ts rest : List Lexeme}
        → (lb : (n : ℕ) → IsLocal (body_of n)) → dl.Declarations u false segment ds ts rest
        → Begins (declares room body_of u) false rest
        → Near (declaration_list room body_of u segment) ts rest (Got ds rest)
    unfolding declaration_list
    declaration_list_read lb l b = near_then _ (declarations_read lb l b []) (near_pure _ _)

-- no body, where no procedure may stand: nothing is claimed
pub no_body : (n : ℕ) → IsLocal (refuse {A = BodyRead})
no_body n = local_refuse

-- The declarations of a body hold no procedure, so that no claim about bodies is wanted.
module _ (room : ℕ) (segment : ℕ) where
  pub inner_read : {d : decl.Declaration} {k : Lexeme} {ts rest : List Lexeme} (after : Bool)
      → dl.Declaration false segment d ts (k ∷ rest) → Is s.Semicolon k
      → (is_subroutine d || not after) ≡ true
      → Near (declaration room (λ _. refuse) false after segment) ts (k ∷ rest) (Got d (k ∷ rest))
  inner_read after (dl.Declaration.simple o i l) k e = rw (not_after after e)
      (simple_read room _ _ segment o i l (semicolon k))
  inner_read after (dl.Declaration.array o c i l) k e = rw (not_after after e)
      (array_decl_read room _ _ segment o c i l (semicolon k))
  inner_read after (dl.Declaration.pointers_of i p l) k e = rw (not_after after e)
      (pointers_read room _ _ segment i p l (semicolon k))
  inner_read after (dl.Declaration.equate i l) k e = rw (not_after after e)
      (equate_read room _ _ segment i l (semicolon k))
  inner_read after (dl.Declaration.intrinsic i l) k e = rw (not_after after e)
      (intrinsic_read room _ _ segment i l (semicolon k))
  inner_read after (dl.Declaration.label i l) k e = rw (not_after after e)
      (label_read room _ _ segment i l (semicolon k))
  inner_read after (dl.Declaration.subroutine h x) k e = subroutine_decl room _ _ segment after h x k

  pub inner_first : {d : decl.Declaration} {ts rest : List Lexeme} → dl.Declaration false segment d ts rest
      → Begins (declares room (λ _. refuse) false) true ts
  unfolding declares
  inner_first (dl.Declaration.simple dl.Own.absent i l) = by_is _ _ _ _ _ i refl
  inner_first (dl.Declaration.simple (dl.Own.given o) i l) = by_is _ _ _ _ _ o refl
  inner_first (dl.Declaration.array dl.Own.absent dl.OptionalKind.absent i l) = by_is _ _ _ _ _ i refl
  inner_first (dl.Declaration.array dl.Own.absent (dl.OptionalKind.given c) i l) = by_is _ _ _ _ _ c refl
  inner_first (dl.Declaration.array (dl.Own.given o) c i l) = by_is _ _ _ _ _ o refl
  inner_first (dl.Declaration.pointers_of i p l) = by_is _ _ _ _ _ i refl
  inner_first (dl.Declaration.equate i l) = by_is _ _ _ _ _ i refl
  inner_first (dl.Declaration.intrinsic i l) = by_is _ _ _ _ _ i refl
  inner_first (dl.Declaration.label i l) = by_is _ _ _ _ _ i refl
  inner_first (dl.Declaration.subroutine (dl.SubroutineHeading.heading dl.Result.absent p i ns vs ss k) x) = by_is _ _
      _ _ _ p refl
  inner_first (dl.Declaration.subroutine (dl.SubroutineHeading.heading (dl.Result.given r) p i ns vs ss k) x) = by_is _
      _ _ _ _ r refl

  inners_read : {after : Bool} {ds : List decl.Declaration} {ts rest : List Lexeme}
      → dl.Declarations false after segment ds ts rest
      → Begins (declares room (λ _. refuse) false) false rest → (so_far : List decl.Declaration)
      → Near (repeat (more_declarations room (λ _. refuse) false segment) (decl_state after so_far)) ts rest
      (Got (decl_state (after_all after ds) (so_far ++ ds)) rest)
  unfolding more_declarations
  inners_read {after = after} {rest = rest} dl.Declarations.none b so_far = near_to
      (near_last _ (choose_else (declares room (λ _. refuse) false) _ b (near_pure _ _)))
      (ap (λ xs. Got (decl_state after xs) rest) (sym (append-nil so_far)))
  inners_read {after = after} {rest = rest} (dl.Declarations.more {d = d} {ds = ds} {mid = mid} x e k l) b so_far =
      let r = inner_read after x k e in
      near_turn {v = decl_state (is_subroutine d) (so_far ++ d ∷ [])} {m = mid}
      (takes_more_declarations room (λ _. refuse) false no_body segment) (let n = r.within in omega arith)
      (choose_then (declares room (λ _. refuse) false) _ (inner_first x)
      (near_then _ r (near_then _ (near_expect k) (near_pure _ _))))
      (near_to (inners_read l b (so_far ++ d ∷ []))
      (ap (λ xs. Got (decl_state (after_all (is_subroutine d) ds) xs) rest) (append_assoc so_far (d ∷ []) ds)))

  pub inner_list_read : {ds : List decl.Declaration} {ts rest : List Lexeme}
      → dl.Declarations false false segment ds ts rest → Begins (declares room (λ _. refuse) false) false rest
      → Near (declaration_list room (λ _. refuse) false segment) ts rest (Got ds rest)
  unfolding declaration_list
  inner_list_read l b = near_then _ (inners_read l b []) (near_pure _ _)

-- the body of a procedure
pub body_read : (room n : ℕ) (ds : List decl.Declaration) (xs : List stat.Statement) (k : Lexeme) (ts rest : List Lexeme)
    → dl.Body n ds xs ts (k ∷ rest) → Is s.Semicolon k
    → Near (body room n) ts (k ∷ rest) (Got (body_pair ds xs) (k ∷ rest))
unfolding body
body_read room n ds xs k ts rest (dl.Body.block i l x z) j = near_symbol _ i
    (near_if _ (same_self (s.Word w.Begin))
    (near_then _ near_take (near_then _ (inner_list_read room n l (list_first room _ _ x z))
    (near_then _ (list_read (complete_list x z) room) (near_then _ (near_expect z) (near_pure _ _))))))
body_read room n ds xs k ts rest (dl.Body.single x c) j = choose_else (is (s.Word w.Begin)) _ (single_no_begin x c)
    (near_then _ ((complete_statement x (af.semicolon j)).reads room)
    (near_if _ c (near_pure _ _)))

-- A declaration of a unit, said of another segment.
pub of_unit : {u : Bool} {m n : ℕ} {d : decl.Declaration} {ts rest : List Lexeme} → dl.Declaration u m d ts rest
    → dl.Declaration u n (of_segment n d) ts rest
of_unit (dl.Declaration.simple o i l) = dl.Declaration.simple o i l
of_unit (dl.Declaration.array o c i l) = dl.Declaration.array o c i l
of_unit (dl.Declaration.pointers_of i p l) = dl.Declaration.pointers_of i p l
of_unit (dl.Declaration.equate i l) = dl.Declaration.equate i l
of_unit (dl.Declaration.intrinsic i l) = dl.Declaration.intrinsic i l
of_unit (dl.Declaration.label i l) = dl.Declaration.label i l
of_unit (dl.Declaration.procedure h b) = dl.Declaration.procedure h b
of_unit (dl.Declaration.procedure_with h p o f g j b) = dl.Declaration.procedure_with h p o f g j b
of_unit (dl.Declaration.forward h p o f) = dl.Declaration.forward h p o f
of_unit (dl.Declaration.external h p o f) = dl.Declaration.external h p o f
of_unit (dl.Declaration.subroutine (dl.SubroutineHeading.heading r p i ns vs ss k) x) = dl.Declaration.subroutine
    (dl.SubroutineHeading.heading r p i ns vs ss k) x

back_again : {u : Bool} {m : ℕ} (n : ℕ) {d : decl.Declaration} {ts rest : List Lexeme} → dl.Declaration u m d ts rest
    → of_segment m (of_segment n d) ≡ d
back_again n (dl.Declaration.simple o i l) = refl
back_again n (dl.Declaration.array o c i l) = refl
back_again n (dl.Declaration.pointers_of i p l) = refl
back_again n (dl.Declaration.equate i l) = refl
back_again n (dl.Declaration.intrinsic i l) = refl
back_again n (dl.Declaration.label i l) = refl
back_again n (dl.Declaration.procedure h b) = refl
back_again n (dl.Declaration.procedure_with h p o f g j b) = refl
back_again n (dl.Declaration.forward h p o f) = refl
back_again n (dl.Declaration.external h p o f) = refl
back_again n (dl.Declaration.subroutine (dl.SubroutineHeading.heading r p i ns vs ss k) x) = refl

pub same_sort : (n : ℕ) (d : decl.Declaration) → is_subroutine (of_segment n d) ≡ is_subroutine d
same_sort n (decl.Declaration.data_items o c is) = refl
same_sort n (decl.Declaration.equate es) = refl
same_sort n (decl.Declaration.intrinsic ns) = refl
same_sort n (decl.Declaration.label ns) = refl
same_sort n (decl.Declaration.forward h) = refl
same_sort n (decl.Declaration.external h) = refl
same_sort n (decl.Declaration.procedure h ds xs) = refl
same_sort n (decl.Declaration.subroutine h x) = refl

pub of_units : {u after : Bool} {m : ℕ} (n : ℕ) {ds : List decl.Declaration} {ts rest : List Lexeme}
    → dl.Declarations u after m ds ts rest → dl.Declarations u after n (map (of_segment n) ds) ts rest
of_units n dl.Declarations.none = dl.Declarations.none
of_units {after = after} n (dl.Declarations.more {d = d} x e k l) = dl.Declarations.more (of_unit x)
    (rw (same_sort n d) e) k (rw (same_sort n d) (of_units n l))

all_back : {u after : Bool} {m : ℕ} (n : ℕ) {ds : List decl.Declaration} {ts rest : List Lexeme}
    → dl.Declarations u after m ds ts rest → map (of_segment m) (map (of_segment n) ds) ≡ ds
all_back n dl.Declarations.none = refl
all_back {m = m} n (dl.Declarations.more {d = d} {ds = ds} x e k l) = rw (back_again n x, all_back n l) refl

-- the segment in force at a token
pub segment_read : {ts : List Lexeme} → length ts ≢ 0 → Near next_segment ts ts (Got (segment_at ts) ts)
unfolding next_segment
segment_read {ts = []} e = absurd (e refl)
segment_read {ts = t ∷ us} e = near_same (omega arith) refl

-- a unit
pub unit_read : {u : UnitTree} {ts : List Lexeme} → Unit_of u ts → (room : ℕ) → Near (rd.unit room) ts [] (Got u [])
unfolding rd.unit
unit_read (unit {ds = ds} {xs = xs} {b = b} {mid = mid} i l x z d e) room = near_then _ (near_expect i)
    (near_then _ (declaration_list_read room (body room) 0 (body_read room) (local_body room) (of_units 0 l)
    (list_first room _ _ x z))
    (near_then _ (segment_read (let n = tk.no_longer_list x in omega arith))
    (near_then _ (list_read (complete_list x z) room)
    (near_then _ (near_expect z) (near_then _ (near_expect d) (near_then _ (near_expect e)
    (near_to (near_pure _ _) (ap (λ ds. Got (unit_tree_of ds xs (segment_at mid) b.at) []) (all_back 0 l)))))))))
