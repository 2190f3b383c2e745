-- Each open prefix of a declaration and of a unit can be completed, one production at a time.
use Rattle.std.proofs.Common.{ℕ, ◌≡◌, ◌<◌, ◌≤◌, ◌||◌, ◌&&◌, not, Bool, true, false, List, [], ◌∷◌, ◌++◌, length, codes, Some, refl, arith, ap, ap₂, sym, ◌∙◌, ◌⊎◌, inl, inr, append_assoc}
use Rattle.spl_reading.specs.spl_tree.declared.expressions.Kind.{Kind}
use Rattle.spl_reading.specs.spl_tree.declared.expressions.Kind.TheVariants as kind
use Rattle.spl_reading.specs.spl_tree.declared.symbols.Symbol.TheVariants as s
use Rattle.spl_reading.specs.spl_tree.declared.symbols.Reserved.{Reserved}
use Rattle.spl_reading.specs.spl_tree.declared.symbols.Reserved.TheVariants as wd
use Rattle.spl_reading.specs.spl_tree.Symbols.{Lexeme, Is}
use Rattle.spl_reading.specs.spl_tree.Operators.{is_sign}
use Rattle.spl_reading.specs.spl_tree.Expressions as g
use Rattle.spl_reading.specs.spl_tree.Trees as tree
use Rattle.spl_reading.specs.spl_tree.StatementTrees as stat
use Rattle.spl_reading.specs.spl_tree.Statements as st
use Rattle.spl_reading.specs.spl_tree.DeclarationTrees as decl
use Rattle.spl_reading.specs.spl_tree.DeclarationTrees.{Placed, UnitTree}
use Rattle.spl_reading.specs.spl_tree.Declarations as dl
use Rattle.spl_reading.specs.spl_tree.Declarations.{Options, both, fit, option_of, no_options, is_subroutine, can_be_body}
use Rattle.spl_reading.specs.spl_tree.Units as un
use Rattle.spl_reading.specs.spl_tree.Units.{segment_at}
use Rattle.spl_reading.specs.spl_tree.OpenDeclarations as od
use Rattle.spl_reading.specs.spl_tree.OpenDeclarations.{DeclarationStep, begins_block}
use Rattle.spl_reading.specs.spl_tree.Parts as part
use Rattle.spl_reading.specs.spl_tree.Parts.{Part}
use Rattle.spl_grammar.proofs.MovedParts.{Swap, same, behind, along, swap_length, Moved, move_constant}
use Rattle.spl_grammar.proofs.MovedStatements.{move_statements}
use Rattle.spl_grammar.proofs.MovedDeclarations.{Some_of, move_name, move_names, move_kind, move_result, move_own, move_item, move_array, move_terms, move_equal, move_parameters, move_values, move_specs, move_options, move_heading, is_body, still_no_block, SomeDeclaration, SomeDeclarations, SomeBody, move_declaration, move_declarations, test_at, list_at}
use Rattle.spl_grammar.proofs.CompletedParts.{EndedOptions, RawHeading, raw, AnyDeclaration, AnyUnit, Whole, Refilled, filled, Completed, open_at, has_token, has_token_behind, token, word, a_name, a_number}
use Rattle.spl_grammar.proofs.CompletedExpressions.{nothing_or}

-- an open part, and the marks behind it
around_part : {p q : Part} {ts mid rest : List Lexeme} (marks : List Lexeme) → Completed q mid rest
    → ((us next more : List Lexeme) → Swap rest next mid us → Whole q us (marks ++ more) → Refilled p ts rest next more)
    → Completed p ts rest
around_part marks a f = record {
  tail = a.tail ++ marks;
  whole = λ more. rw (append_assoc a.tail marks more)
      (let b = a.whole (marks ++ more) in f b.to (a.tail ++ (marks ++ more)) more b.swap b.whole);
}

-- some part that is spelled
pub some : {A : Type 0} {P : A → List Lexeme → List Lexeme → Type 0} (a : A) {ts rest : List Lexeme} → P a ts rest
    → Some_of P ts rest
some a p = record { tree = a; spelled = p }

-- one name
pub one_name : (more : List Lexeme) → Some_of dl.Names (a_name ∷ more) more
one_name more = some _ (dl.Separated.one (dl.Name.name refl))

-- one more at the end of a list
add_term : {vs : List decl.Term} {o : ℕ} {v : tree.Constant} {p : Lexeme} {ts mid rest : List Lexeme}
    → dl.Terms vs ts (p ∷ mid) → Is (s.Operator o) p → is_sign o ≡ true → g.Constant v mid rest → Some_of dl.Terms ts rest
add_term dl.Terms.none i e c = some _ (dl.Terms.more i e c dl.Terms.none)
add_term (dl.Terms.more j f d l) i e c = let a = add_term l i e c in some _ (dl.Terms.more j f d a.spelled)

-- one more specification behind others
add_words : {ss : List decl.Spec} {c : Kind} {ns : List Placed} {k t : Lexeme} {ts mid rest : List Lexeme}
    → dl.Specs ss ts (k ∷ t ∷ mid) → Is s.Semicolon k → Is (s.Type c) t → dl.Names ns mid rest → Some_of dl.Specs ts rest
add_words dl.Specs.none i j l = some _ (dl.Specs.words i j l dl.Specs.none)
add_words (dl.Specs.words a b d ss) i j l = let x = add_words ss i j l in some _ (dl.Specs.words a b d x.spelled)
add_words (dl.Specs.arrays a b d e ss) i j l = let x = add_words ss i j l in some _ (dl.Specs.arrays a b d e x.spelled)

-- one more specification of arrays
add_arrays : {ss : List decl.Spec} {c : Kind} {ns : List Placed} {k a : Lexeme} {ts us mid rest : List Lexeme}
    → dl.Specs ss ts (k ∷ us) → Is s.Semicolon k → dl.OptionalKind c us (a ∷ mid) → Is (s.Word wd.Array) a
    → dl.Names ns mid rest → Some_of dl.Specs ts rest
add_arrays dl.Specs.none i j m l = some _ (dl.Specs.arrays i j m l dl.Specs.none)
add_arrays (dl.Specs.words a b d ss) i j m l = let x = add_arrays ss i j m l in some _ (dl.Specs.words a b d x.spelled)
add_arrays (dl.Specs.arrays a b d e ss) i j m l = let x = add_arrays ss i j m l in some _ (dl.Specs.arrays a b d e x.spelled)

-- Options: they end in EXTERNAL where that is one of them, and else in FORWARD.
forward_name : Lexeme
forward_name = record { symbol = s.Name; letters = codes "FORWARD"; at = g.place []; segment = 0 }

-- EXTERNAL
external_name : Lexeme
external_name = record { symbol = s.Name; letters = codes "EXTERNAL"; at = g.place []; segment = 0 }

-- the option that ends a list, by whether EXTERNAL is one
last_of : Bool → Lexeme
last_of true = external_name
last_of false = forward_name

-- the option that can end a list behind these
pub last_option : Options → Lexeme
last_option a = last_of a.external

-- an option before others
add_option : {a b : Options} {t k : Lexeme} {ts rest : List Lexeme} → Is s.Name t → option_of t.letters ≡ Some b
    → fit (both a b) ≡ true → Is s.Comma k → EndedOptions (both a b) ts rest → EndedOptions a (t ∷ k ∷ ts) rest
add_option i e f k l = record { last = l.last; ends = l.ends; spelled = dl.OptionList.more i e f k l.spelled }

-- FORWARD and EXTERNAL do not fit
no_fit : (a : Options) → a.forward ≡ true → a.external ≡ true → fit a ≡ true → ⊥
no_fit a x y f = go (rw (x, y) at f)
  where
    go : false ≡ true → ⊥
    go e = cc

-- one option that ends a list
ending : (a : Options) (more : List Lexeme) (b : Options) (t : Lexeme) → fit (both a b) ≡ true
    → ((both a b).forward || (both a b).external) ≡ true → last_of a.external ≡ t → Is s.Name t → option_of t.letters ≡ Some b
    → EndedOptions a (last_of a.external ∷ more) more
ending a more b t f g e i o = rw e (record { last = both a b; ends = g; spelled = dl.OptionList.one i o f })

-- the list of the option that can end it
pub one_option : (a : Options) → fit a ≡ true → (more : List Lexeme) → EndedOptions a (last_option a ∷ more) more
unfolding option_of last_option last_of forward_name external_name
one_option a f more = go a.forward a.external refl refl
  where
    go : (b c : Bool) → a.forward ≡ b → a.external ≡ c → EndedOptions a (last_of a.external ∷ more) more
    go true true x y = absurd (no_fit a x y f)
    go true false x y = ending a more (record { forward = true; external = false; split = false }) forward_name
        (ap₂ (λ f e. not ((f || true) && (e || false))) x y) (ap₂ (λ f e. (f || true) || (e || false)) x y) (ap last_of y) refl refl
    go false true x y = ending a more (record { forward = false; external = true; split = false }) external_name
        (ap₂ (λ f e. not ((f || false) && (e || true))) x y) (ap₂ (λ f e. (f || false) || (e || true)) x y) (ap last_of y) refl refl
    go false false x y = ending a more (record { forward = true; external = false; split = false }) forward_name
        (ap₂ (λ f e. not ((f || true) && (e || false))) x y) (ap₂ (λ f e. (f || true) || (e || false)) x y) (ap last_of y) refl refl

-- Headings.
as_heading : (split : Bool) {ts rest : List Lexeme} → RawHeading wd.Procedure ts rest → Some_of (dl.Heading split) ts rest
as_heading split (raw r i j n v ss k) = some _ (dl.Heading.heading r i j n v ss k)

-- as that of a subroutine
pub as_subroutine : (segment : ℕ) {ts rest : List Lexeme} → RawHeading wd.Subroutine ts rest
    → Some_of (dl.SubroutineHeading segment) ts rest
as_subroutine segment (raw r i j n v ss k) = some _ (dl.SubroutineHeading.heading r i j n v ss k)

-- a heading of a subroutine without its segment
raw_of : {segment : ℕ} {h : decl.Heading} {ts rest : List Lexeme} → dl.SubroutineHeading segment h ts rest
    → RawHeading wd.Subroutine ts rest
raw_of (dl.SubroutineHeading.heading r i j n v ss k) = raw r i j n v ss k

-- a heading, with SPLIT or without
any_split : {a : Bool} (b : Bool) {h : decl.Heading} {ts rest : List Lexeme} → dl.Heading a h ts rest
    → Some_of (dl.Heading b) ts rest
any_split b (dl.Heading.heading r i j n v ss k) = some _ (dl.Heading.heading r i j n v ss k)

-- a heading depends on no token behind it
move_raw : {k : Reserved} {ts rest : List Lexeme} → RawHeading k ts rest → (more : List Lexeme)
    → Moved (RawHeading k) ts rest more more
move_raw (raw {p = p} {t = t} {z = z} r i j n v ss k) more = let e = move_specs ss (z ∷ more) in
    let d = move_values v e.to in let c = move_parameters n d.to in let b = move_result r (p ∷ t ∷ c.to) in record {
      to = _;
      swap = along b.swap (behind (behind (along c.swap (along d.swap (along e.swap (behind same))))));
      whole = raw b.whole.spelled i j c.whole.spelled d.whole.spelled e.whole.spelled k;
    }

-- Declarations.
pub of_declaration_tree : {u after : Bool} {segment : ℕ} {d : decl.Declaration} {ts rest : List Lexeme}
    → dl.Declaration u segment d ts rest → (is_subroutine d || not after) ≡ true → AnyDeclaration u after segment ts rest
of_declaration_tree p e = record { tree = _; fits = e; spelled = p }

-- declarations that are spelled
pub of_declarations : {u after : Bool} {segment : ℕ} {ds : List decl.Declaration} {ts rest : List Lexeme}
    → dl.Declarations u after segment ds ts rest → SomeDeclarations u after segment ts rest
of_declarations p = record { trees = _; spelled = p }

-- a body that is spelled
of_body : {segment : ℕ} {ds : List decl.Declaration} {xs : List stat.Statement} {ts rest : List Lexeme}
    → dl.Body segment ds xs ts rest → SomeBody segment ts rest
of_body p = record { items = _; statements = _; spelled = p }

-- RETURN as a body
pub return_body : (segment : ℕ) (more : List Lexeme) → SomeBody segment (word wd.Return ∷ more) more
return_body segment more = of_body (dl.Body.single (st.Statement.return refl) refl)

-- the same declarations in another segment
same_declaration : {u b : Bool} {segment : ℕ} {d : decl.Declaration} {ts rest : List Lexeme} → is_subroutine d ≡ b
    → dl.Declaration u segment d ts rest → SomeDeclaration u segment b ts rest
same_declaration e p = record { tree = _; alike = e; spelled = p }

-- a declaration
resegment : {u : Bool} {old : ℕ} {d : decl.Declaration} {ts rest : List Lexeme} (segment : ℕ)
    → dl.Declaration u old d ts rest → SomeDeclaration u segment (is_subroutine d) ts rest
resegment segment (dl.Declaration.simple o i l) = same_declaration refl (dl.Declaration.simple o i l)
resegment segment (dl.Declaration.array o k i l) = same_declaration refl (dl.Declaration.array o k i l)
resegment segment (dl.Declaration.pointers_of i j l) = same_declaration refl (dl.Declaration.pointers_of i j l)
resegment segment (dl.Declaration.equate i l) = same_declaration refl (dl.Declaration.equate i l)
resegment segment (dl.Declaration.intrinsic i l) = same_declaration refl (dl.Declaration.intrinsic i l)
resegment segment (dl.Declaration.label i l) = same_declaration refl (dl.Declaration.label i l)
resegment segment (dl.Declaration.procedure h b) = same_declaration refl (dl.Declaration.procedure h b)
resegment segment (dl.Declaration.procedure_with h i o e f j b) = same_declaration refl
    (dl.Declaration.procedure_with h i o e f j b)
resegment segment (dl.Declaration.forward h i o e) = same_declaration refl (dl.Declaration.forward h i o e)
resegment segment (dl.Declaration.external h i o e) = same_declaration refl (dl.Declaration.external h i o e)
resegment segment (dl.Declaration.subroutine h x) = let a = as_subroutine segment (raw_of h) in
    same_declaration refl (dl.Declaration.subroutine a.spelled x)

-- all declarations
resegment_all : {u after : Bool} {old : ℕ} {ds : List decl.Declaration} {ts rest : List Lexeme} (segment : ℕ)
    → dl.Declarations u after old ds ts rest → SomeDeclarations u after segment ts rest
resegment_all segment dl.Declarations.none = of_declarations dl.Declarations.none
resegment_all segment (dl.Declarations.more d e i l) = let a = resegment segment d in let b = resegment_all segment l in
    of_declarations (dl.Declarations.more a.spelled (test_at _ _ _ a.alike e) i (list_at (sym a.alike) b.spelled))

-- the same up to an equal list
statements_at : {xs : List stat.Statement} {ts us vs : List Lexeme} → us ≡ vs → st.Statements xs ts us → st.Statements xs ts vs
statements_at e p = rw (← e) p

-- a unit by its parts, where nothing follows
pub of_unit : {xs : List stat.Statement} {b z d e : Lexeme} {us mid more : List Lexeme} → Is (s.Word wd.Begin) b
    → ((segment : ℕ) → SomeDeclarations true false segment us mid) → st.Statements xs mid (z ∷ d ∷ e ∷ more)
    → Is (s.Word wd.End) z → Is s.Dot d → Is s.Stop e → more ≡ [] → AnyUnit (b ∷ us)
of_unit {z = z} {d = d} {e = e} {mid = mid} i ds xs j k l q = let a = ds (segment_at mid) in record {
  tree = _;
  spelled = un.Unit_of.unit i a.spelled (statements_at (ap (λ us. z ∷ d ∷ e ∷ us) q) xs) j k l;
}

-- behind the options of a heading
behind_options : {a : Options} {h : decl.Heading} {p : Lexeme} {ts mid next rest : List Lexeme}
    → dl.Heading a.split h ts (p ∷ mid) → Is (s.Word wd.Options) p → dl.OptionList no_options a mid next
    → Completed part.mark next rest → Completed (part.declaration true false) ts rest
behind_options {a = a} {p = p} {ts = ts} {rest = rest} h i l o = go a.forward a.external refl refl
  where
    go : (b c : Bool) → a.forward ≡ b → a.external ≡ c → Completed (part.declaration true false) ts rest
    go true c e f = open_at [] (λ _. o) (λ more. let c = move_options l more in let m = move_heading h (p ∷ c.to) in
        filled (along m.swap (behind c.swap))
        (λ segment. of_declaration_tree (dl.Declaration.forward m.whole.spelled i c.whole.spelled e) refl))
    go false true e f = open_at [] (λ _. o) (λ more. let c = move_options l more in let m = move_heading h (p ∷ c.to) in
        filled (along m.swap (behind c.swap))
        (λ segment. of_declaration_tree (dl.Declaration.external m.whole.spelled i c.whole.spelled f) refl))
    go false false e f = open_at (token s.Semicolon ∷ word wd.Return ∷ []) (λ _. o) (λ more.
        let c = move_options l (token s.Semicolon ∷ word wd.Return ∷ more) in let m = move_heading h (p ∷ c.to) in
        filled (along m.swap (behind c.swap))
        (λ segment. of_declaration_tree (dl.Declaration.procedure_with m.whole.spelled i c.whole.spelled e f refl
        (return_body m.whole.tree.segment more).spelled) refl))

-- one of two that is not the first is the second
external_of : (a b : Bool) → a ≡ false → (a || b) ≡ true → b ≡ true
external_of true b e f = cc
external_of false b e f = f

-- options that end in FORWARD or EXTERNAL end a declaration
of_options : {split : Bool} {h : decl.Heading} {p : Lexeme} {segment : ℕ} {ts mid rest : List Lexeme}
    → dl.Heading split h ts (p ∷ mid) → Is (s.Word wd.Options) p → EndedOptions no_options mid rest
    → AnyDeclaration true false segment ts rest
of_options {segment = segment} {ts = ts} {rest = rest} h i l = go l.last.forward refl l.ends
  where
    go : (b : Bool) → l.last.forward ≡ b → (l.last.forward || l.last.external) ≡ true → AnyDeclaration true false segment ts rest
    go true e f = let a = any_split l.last.split h in
        of_declaration_tree (dl.Declaration.forward a.spelled i l.spelled e) refl
    go false e f = let a = any_split l.last.split h in
        of_declaration_tree (dl.Declaration.external a.spelled i l.spelled (external_of _ _ e f)) refl

-- a single statement as a body
single_whole : {ts rest next more : List Lexeme} → begins_block ts ≡ false → length rest < length ts
    → length more ≤ length next → Refilled part.statement ts rest next more → Refilled part.body ts rest next more
single_whole e l m a = filled a.swap (λ segment. of_body (dl.Body.single a.whole.spelled (is_body a.whole.spelled
    (still_no_block a.swap l e) (let i = swap_length a.swap in omega arith))))

-- what stands behind some tokens is no longer
more_behind : (ts more : List Lexeme) → length more ≤ length (ts ++ more)
more_behind [] more = omega arith
more_behind (t ∷ ts) more = let a = more_behind ts more in omega arith

-- a body that has not begun
single_return : (rest : List Lexeme) → Completed part.body rest rest
single_return rest = record {
  tail = word wd.Return ∷ [];
  whole = λ more. filled same (λ segment. return_body segment more);
}

-- a single statement that is open
single_completed : {ts rest : List Lexeme} → begins_block ts ≡ false → Completed part.statement ts rest
    → Completed part.body ts rest
single_completed {ts = ts} {rest = rest} e o = let a = o.whole [] in go (nothing_or a.swap)
  where
    go : (ts ≡ rest) ⊎ (length rest < length ts) → Completed part.body ts rest
    go (inl q) = rw q (single_return rest)
    go (inr l) = record { tail = o.tail; whole = λ more. single_whole e l (more_behind o.tail more) (o.whole more) }

-- one step, and the part that is open behind it
pub declaration_completed : {p q : Part} {ts mid rest : List Lexeme} → DeclarationStep p ts q mid → Completed q mid rest
    → Completed p ts rest
declaration_completed (od.names_comma a) o = open_at [] (λ _. o) (λ more.
    let a = move_name a more in
    filled a.swap
    (some _ (dl.Separated.one a.whole.spelled)))
declaration_completed (od.names_next {k = k} a i) o = around_part [] o (λ us next more sw b.
    let a = move_name a (k ∷ us) in
    filled (along a.swap (behind sw))
    (some _ (dl.Separated.more a.whole.spelled i b.spelled)))
declaration_completed od.constants_part o = around_part [] o (λ us next more sw b.
    filled sw
    (some _ (dl.Separated.one b.spelled)))
declaration_completed (od.constants_comma a) o = open_at [] (λ _. o) (λ more.
    let a = move_constant a more in
    filled a.swap
    (some _ (dl.Separated.one a.whole.spelled)))
declaration_completed (od.constants_next {k = k} a i) o = around_part [] o (λ us next more sw b.
    let a = move_constant a (k ∷ us) in
    filled (along a.swap (behind sw))
    (some _ (dl.Separated.more a.whole.spelled i b.spelled)))
declaration_completed od.items_part o = around_part [] o (λ us next more sw b.
    filled sw
    (some _ (dl.Separated.one b.spelled)))
declaration_completed (od.items_comma a) o = open_at [] (λ _. o) (λ more.
    let a = move_item a more in
    filled a.swap
    (some _ (dl.Separated.one a.whole.spelled)))
declaration_completed (od.items_next {k = k} a i) o = around_part [] o (λ us next more sw b.
    let a = move_item a (k ∷ us) in
    filled (along a.swap (behind sw))
    (some _ (dl.Separated.more a.whole.spelled i b.spelled)))
declaration_completed od.equals_part o = around_part [] o (λ us next more sw b.
    filled sw
    (some _ (dl.Separated.one b.spelled)))
declaration_completed (od.equals_comma a) o = open_at [] (λ _. o) (λ more.
    let a = move_equal a more in
    filled a.swap
    (some _ (dl.Separated.one a.whole.spelled)))
declaration_completed (od.equals_next {k = k} a i) o = around_part [] o (λ us next more sw b.
    let a = move_equal a (k ∷ us) in
    filled (along a.swap (behind sw))
    (some _ (dl.Separated.more a.whole.spelled i b.spelled)))
declaration_completed (od.item_assign i) o = open_at [] (λ _. o) (λ more.
    filled (behind same)
    (some _ (dl.Item.plain i)))
declaration_completed (od.item_value i j) o = around_part [] o (λ us next more sw b.
    filled (behind (behind sw))
    (some _ (dl.Item.valued i j b.spelled)))
declaration_completed (od.equal_mark i) o = open_at (token (s.Operator 5) ∷ a_number ∷ []) (λ _. o) (λ more.
    filled (behind same)
    (some _ (dl.Equal.equal i refl (g.Constant.number refl) dl.Terms.none)))
declaration_completed (od.equal_value i j) o = around_part [] o (λ us next more sw b.
    filled (behind (behind sw))
    (some _ (dl.Equal.equal i j b.spelled dl.Terms.none)))
declaration_completed (od.equal_sign i j v l) o = open_at [] (λ _. o) (λ more.
    let n = move_terms l more in let m = move_constant v n.to in
    filled (behind (behind (along m.swap n.swap)))
    (some _ (dl.Equal.equal i j m.whole.spelled n.whole.spelled)))
declaration_completed (od.equal_term {p = p} i j v l k e) o = around_part [] o (λ us next more sw b.
    let n = move_terms l (p ∷ us) in let m = move_constant v n.to in
    filled (behind (behind (along m.swap (along n.swap (behind sw)))))
    (some _ (dl.Equal.equal i j m.whole.spelled (add_term n.whole.spelled k e b.spelled).spelled)))
declaration_completed (od.array_open i) o = open_at (token s.Open ∷ a_number ∷ token s.Colon ∷ a_number ∷ token s.Close ∷ []) (λ _. o) (λ more.
    filled (behind same)
    (some _ (dl.Array.bounds i refl (g.Constant.number refl) refl (g.Constant.number refl) refl)))
declaration_completed (od.array_low i j) o = around_part (token s.Colon ∷ a_number ∷ token s.Close ∷ []) o (λ us next more sw b.
    filled (behind (behind sw))
    (some _ (dl.Array.bounds i j b.spelled refl (g.Constant.number refl) refl)))
declaration_completed (od.array_colon i j a) o = open_at (token s.Colon ∷ a_number ∷ token s.Close ∷ []) (λ _. o) (λ more.
    let a = move_constant a (token s.Colon ∷ a_number ∷ token s.Close ∷ more) in
    filled (behind (behind a.swap))
    (some _ (dl.Array.bounds i j a.whole.spelled refl (g.Constant.number refl) refl)))
declaration_completed (od.array_high {k = k} i j a q) o = around_part (token s.Close ∷ []) o (λ us next more sw b.
    let a = move_constant a (k ∷ us) in
    filled (behind (behind (along a.swap (behind sw))))
    (some _ (dl.Array.bounds i j a.whole.spelled q b.spelled refl)))
declaration_completed (od.array_close {k = k} i j a q c) o = open_at (token s.Close ∷ []) (λ _. o) (λ more.
    let n = move_constant c (token s.Close ∷ more) in let a = move_constant a (k ∷ n.to) in
    filled (behind (behind (along a.swap (behind n.swap))))
    (some _ (dl.Array.bounds i j a.whole.spelled q n.whole.spelled refl)))
declaration_completed (od.view_star i j) o = open_at (a_number ∷ token s.Colon ∷ a_number ∷ token s.Close ∷ []) (λ _. o) (λ more.
    filled (behind (behind same))
    (some _ (dl.Array.bounds i j (g.Constant.number refl) refl (g.Constant.number refl) refl)))
declaration_completed (od.view_close i j k) o = open_at (token s.Close ∷ token (s.Operator 5) ∷ a_name ∷ []) (λ _. o) (λ more.
    filled (behind (behind (behind same)))
    (some _ (dl.Array.view i j k refl refl refl)))
declaration_completed (od.view_equal i j k l) o = open_at (token (s.Operator 5) ∷ a_name ∷ []) (λ _. o) (λ more.
    filled (behind (behind (behind (behind same))))
    (some _ (dl.Array.view i j k l refl refl)))
declaration_completed (od.view_base i j k l e) o = open_at (a_name ∷ []) (λ _. o) (λ more.
    filled (behind (behind (behind (behind (behind same)))))
    (some _ (dl.Array.view i j k l e refl)))
declaration_completed od.arrays_part o = around_part [] o (λ us next more sw b.
    filled sw
    (some _ (dl.Arrays.one b.spelled)))
declaration_completed (od.arrays_mark a) o = open_at [] (λ _. o) (λ more.
    let a = move_array [] a more in
    filled a.swap
    (some _ (dl.Arrays.one a.whole.spelled)))
declaration_completed (od.arrays_next {k = k} a i) o = around_part [] o (λ us next more sw b.
    let a = move_array [] a (k ∷ us) in
    filled (along a.swap (behind sw))
    (some _ (dl.Arrays.more a.whole.spelled i b.spelled)))
declaration_completed (od.arrays_values {k = k} a i) o = around_part [] o (λ us next more sw b.
    let a = move_array b.tree a (k ∷ us) in
    filled (along a.swap (behind sw))
    (some _ (dl.Arrays.valued a.whole.spelled i b.spelled)))
declaration_completed (od.options_comma {a = a} {b = b} i e f) o = open_at (token s.Comma ∷ last_option (both a b) ∷ []) (λ _. o) (λ more.
    filled (behind same) (add_option i e f refl (one_option (both a b) f more)))
declaration_completed (od.options_next i e f k) o = around_part [] o (λ us next more sw b.
    filled (behind (behind sw))
    (add_option i e f k b))
declaration_completed (od.heading_word {k = k} i) o = open_at (word k ∷ a_name ∷ token s.Semicolon ∷ []) (λ _. o) (λ more.
    filled (behind same)
    (raw (dl.Result.given i) refl refl dl.Parameters.absent dl.Values.absent dl.Specs.none refl))
declaration_completed (od.heading_name {p = p} r i) o = open_at (a_name ∷ token s.Semicolon ∷ []) (λ _. o) (λ more.
    let a = move_result r (p ∷ a_name ∷ token s.Semicolon ∷ more) in
    filled (along a.swap (behind same))
    (raw a.whole.spelled i refl dl.Parameters.absent dl.Values.absent dl.Specs.none refl))
declaration_completed (od.heading_mark {p = p} {t = t} r i j) o = open_at (token s.Semicolon ∷ []) (λ _. o) (λ more.
    let a = move_result r (p ∷ t ∷ token s.Semicolon ∷ more) in
    filled (along a.swap (behind (behind same)))
    (raw a.whole.spelled i j dl.Parameters.absent dl.Values.absent dl.Specs.none refl))
declaration_completed (od.heading_names {p = p} {t = t} {o = m} r i j k) o = around_part (token s.Close ∷ token s.Semicolon ∷ []) o (λ us next more sw b.
    let a = move_result r (p ∷ t ∷ m ∷ us) in
    filled (along a.swap (behind (behind (behind sw))))
    (raw a.whole.spelled i j (dl.Parameters.given k b.spelled refl) dl.Values.absent dl.Specs.none refl))
declaration_completed (od.heading_close {p = p} {t = t} {o = m} r i j k l) o = open_at (token s.Close ∷ token s.Semicolon ∷ []) (λ _. o) (λ more.
    let n = move_names l (token s.Close ∷ token s.Semicolon ∷ more) in let a = move_result r (p ∷ t ∷ m ∷ n.to) in
    filled (along a.swap (behind (behind (behind n.swap))))
    (raw a.whole.spelled i j (dl.Parameters.given k n.whole.spelled refl) dl.Values.absent dl.Specs.none refl))
declaration_completed (od.heading_semicolon {p = p} {t = t} r i j n) o = open_at (token s.Semicolon ∷ []) (λ _. o) (λ more.
    let n = move_parameters n (token s.Semicolon ∷ more) in let a = move_result r (p ∷ t ∷ n.to) in
    filled (along a.swap (behind (behind n.swap)))
    (raw a.whole.spelled i j n.whole.spelled dl.Values.absent dl.Specs.none refl))
declaration_completed (od.heading_values {p = p} {t = t} {j = m} {v = v} r i j n k l) o = around_part (token s.Semicolon ∷ []) o (λ us next more sw b.
    let n = move_parameters n (m ∷ v ∷ us) in let a = move_result r (p ∷ t ∷ n.to) in
    filled (along a.swap (behind (behind (along n.swap (behind (behind sw))))))
    (raw a.whole.spelled i j n.whole.spelled (dl.Values.given k l b.spelled) dl.Specs.none refl))
declaration_completed (od.heading_specs {p = p} {t = t} r i j n v ss) o = open_at (token s.Semicolon ∷ []) (λ _. o) (λ more.
    let e = move_specs ss (token s.Semicolon ∷ more) in let d = move_values v e.to in let c = move_parameters n d.to in let a = move_result r (p ∷ t ∷ c.to) in
    filled (along a.swap (behind (behind (along c.swap (along d.swap e.swap)))))
    (raw a.whole.spelled i j c.whole.spelled d.whole.spelled e.whole.spelled refl))
declaration_completed (od.heading_spec {p = p} {t = t} {j = m} r i j n v ss k) o = open_at [] (λ _. o) (λ more.
    let e = move_specs ss (m ∷ more) in let d = move_values v e.to in let c = move_parameters n d.to in let a = move_result r (p ∷ t ∷ c.to) in
    filled (along a.swap (behind (behind (along c.swap (along d.swap (along e.swap (behind same)))))))
    (raw a.whole.spelled i j c.whole.spelled d.whole.spelled e.whole.spelled k))
declaration_completed (od.heading_spec_names {p = p} {t = t} {j = m} {u = u} r i j n v ss k l) o = around_part (token s.Semicolon ∷ []) o (λ us next more sw b.
    let e = move_specs ss (m ∷ u ∷ us) in let d = move_values v e.to in let c = move_parameters n d.to in let a = move_result r (p ∷ t ∷ c.to) in
    filled (along a.swap (behind (behind (along c.swap (along d.swap (along e.swap (behind (behind sw))))))))
    (raw a.whole.spelled i j c.whole.spelled d.whole.spelled (add_words e.whole.spelled k l b.spelled).spelled refl))
declaration_completed (od.heading_spec_array {p = p} {t = t} {j = m} {u = u} r i j n v ss k l) o = open_at (a_name ∷ token s.Semicolon ∷ []) (λ _. o) (λ more.
    let e = move_specs ss (m ∷ u ∷ a_name ∷ token s.Semicolon ∷ more) in let d = move_values v e.to in let c = move_parameters n d.to in let a = move_result r (p ∷ t ∷ c.to) in
    filled (along a.swap (behind (behind (along c.swap (along d.swap (along e.swap (behind (behind same))))))))
    (raw a.whole.spelled i j c.whole.spelled d.whole.spelled (add_words e.whole.spelled k l (one_name (token s.Semicolon ∷ more)).spelled).spelled refl))
declaration_completed (od.heading_array_names {p = p} {t = t} {j = m} {a = z} r i j n v ss k f l) o =
    around_part (token s.Semicolon ∷ []) o (λ us next more sw b.
    let q = move_kind f (z ∷ us) in let e = move_specs ss (m ∷ q.to) in let d = move_values v e.to in
    let c = move_parameters n d.to in let a = move_result r (p ∷ t ∷ c.to) in
    filled (along a.swap (behind (behind (along c.swap (along d.swap (along e.swap (behind (along q.swap (behind sw)))))))))
    (raw a.whole.spelled i j c.whole.spelled d.whole.spelled (add_arrays e.whole.spelled k q.whole.spelled l b.spelled).spelled refl))
declaration_completed (od.own i) o = open_at (token (s.Type kind.Integer) ∷ a_name ∷ []) (λ _. o) (λ more.
    filled (behind same)
    (λ segment. of_declaration_tree (dl.Declaration.simple (dl.Own.given i) refl (dl.Separated.one (dl.Item.plain refl))) refl))
declaration_completed (od.type_mark {t = t} w i) o = open_at (a_name ∷ []) (λ _. o) (λ more.
    let a = move_own w (t ∷ a_name ∷ more) in
    filled (along a.swap (behind same))
    (λ segment. of_declaration_tree (dl.Declaration.simple a.whole.spelled i (dl.Separated.one (dl.Item.plain refl))) refl))
declaration_completed (od.simple_items {t = t} w i) o = around_part [] o (λ us next more sw b.
    let a = move_own w (t ∷ us) in
    filled (along a.swap (behind sw))
    (λ segment. of_declaration_tree (dl.Declaration.simple a.whole.spelled i b.spelled) refl))
declaration_completed (od.array_list {a = z} w k i) o = around_part [] o (λ us next more sw b.
    let c = move_kind k (z ∷ us) in let a = move_own w c.to in
    filled (along a.swap (along c.swap (behind sw)))
    (λ segment. of_declaration_tree (dl.Declaration.array a.whole.spelled c.whole.spelled i b.spelled) refl))
declaration_completed (od.pointer_names i j) o = around_part [] o (λ us next more sw b.
    filled (behind (behind sw))
    (λ segment. of_declaration_tree (dl.Declaration.pointers_of i j b.spelled) refl))
declaration_completed (od.equate_list i) o = around_part [] o (λ us next more sw b.
    filled (behind sw)
    (λ segment. of_declaration_tree (dl.Declaration.equate i b.spelled) refl))
declaration_completed (od.intrinsic_names i) o = around_part [] o (λ us next more sw b.
    filled (behind sw)
    (λ segment. of_declaration_tree (dl.Declaration.intrinsic i b.spelled) refl))
declaration_completed (od.label_names i) o = around_part [] o (λ us next more sw b.
    filled (behind sw)
    (λ segment. of_declaration_tree (dl.Declaration.label i b.spelled) refl))
declaration_completed od.procedure_heading o = around_part (word wd.Return ∷ []) o (λ us next more sw b.
    filled sw
    (λ segment. let h = as_heading false b in of_declaration_tree (dl.Declaration.procedure h.spelled (return_body _ more).spelled) refl))
declaration_completed (od.procedure_body h) o = around_part [] o (λ us next more sw b.
    let a = move_heading h us in
    filled (along a.swap sw)
    (λ segment. let x = b a.whole.tree.segment in of_declaration_tree (dl.Declaration.procedure a.whole.spelled x.spelled) refl))
declaration_completed (od.procedure_options {p = p} h i) o = around_part [] o (λ us next more sw b.
    let a = move_heading h (p ∷ us) in
    filled (along a.swap (behind sw))
    (λ segment. of_options a.whole.spelled i b))
declaration_completed (od.options_semicolon h i l) o = behind_options h i l o
declaration_completed (od.options_body {p = p} {k = k} h i l e f j) o = around_part [] o (λ us next more sw b.
    let c = move_options l (k ∷ us) in let m = move_heading h (p ∷ c.to) in
    filled (along m.swap (behind (along c.swap (behind sw))))
    (λ segment. let x = b m.whole.tree.segment in of_declaration_tree (dl.Declaration.procedure_with m.whole.spelled i c.whole.spelled e f j x.spelled) refl))
declaration_completed od.subroutine_heading o = around_part [] o (λ us next more sw b.
    filled sw
    (λ segment. let h = as_subroutine segment b in of_declaration_tree (dl.Declaration.subroutine h.spelled st.Statement.empty) refl))
declaration_completed (od.subroutine_statement h) o = around_part [] o (λ us next more sw b.
    let m = move_raw (raw_of h) us in
    filled (along m.swap sw)
    (λ segment. let h = as_subroutine segment m.whole in of_declaration_tree (dl.Declaration.subroutine h.spelled b.spelled) refl))
declaration_completed od.declaration_of o = around_part (token s.Semicolon ∷ []) o (λ us next more sw b.
    filled sw
    (λ segment. let d = b segment in of_declarations (dl.Declarations.more d.spelled d.fits refl dl.Declarations.none)))
declaration_completed (od.declaration_end {segment = old} d e) o = open_at (token s.Semicolon ∷ []) (λ _. o) (λ more.
    let m = move_declaration old d (token s.Semicolon ∷ more) in
    filled m.swap
    (λ segment. let r = resegment segment m.whole.spelled in of_declarations (dl.Declarations.more r.spelled (test_at _ _ _ (r.alike ∙ m.whole.alike) e) refl dl.Declarations.none)))
declaration_completed (od.next_declaration {segment = old} {k = k} d e i) o = around_part [] o (λ us next more sw b.
    let m = move_declaration old d (k ∷ us) in
    filled (along m.swap (behind sw))
    (λ segment. let r = resegment segment m.whole.spelled in let l = b segment in of_declarations (dl.Declarations.more r.spelled (test_at _ _ _ (r.alike ∙ m.whole.alike) e) i (list_at (sym (r.alike ∙ m.whole.alike)) l.spelled))))
declaration_completed (od.body_declarations i) o = around_part (word wd.End ∷ []) o (λ us next more sw b.
    filled (behind sw)
    (λ segment. let l = b segment in of_body (dl.Body.block i l.spelled (st.Statements.one st.Statement.empty) refl)))
declaration_completed (od.body_statements {segment = old} i ds) o = around_part (word wd.End ∷ []) o (λ us next more sw b.
    let m = move_declarations old ds us in
    filled (behind (along m.swap sw))
    (λ segment. let l = resegment_all segment m.whole.spelled in of_body (dl.Body.block i l.spelled b.spelled refl)))
declaration_completed (od.body_end {segment = old} i ds xs) o = open_at (word wd.End ∷ []) (λ _. o) (λ more.
    let n = move_statements xs (word wd.End ∷ more) in let m = move_declarations old ds n.to in
    filled (behind (along m.swap n.swap))
    (λ segment. let l = resegment_all segment m.whole.spelled in of_body (dl.Body.block i l.spelled n.whole.spelled refl)))
declaration_completed (od.body_statement e) o = single_completed e o
declaration_completed (od.unit_declarations i) o = around_part (word wd.End ∷ token s.Dot ∷ token s.Stop ∷ []) o (λ us next more sw b.
    filled (behind sw)
    (λ q. of_unit i b (st.Statements.one st.Statement.empty) refl refl refl q))
declaration_completed (od.unit_statements {segment = old} i ds) o = around_part (word wd.End ∷ token s.Dot ∷ token s.Stop ∷ []) o (λ us next more sw b.
    let m = move_declarations old ds us in
    filled (behind (along m.swap sw))
    (λ q. of_unit i (λ segment. resegment_all segment m.whole.spelled) b.spelled refl refl refl q))
declaration_completed (od.unit_end {segment = old} i ds xs) o = open_at (word wd.End ∷ token s.Dot ∷ token s.Stop ∷ []) (λ _. o) (λ more.
    let n = move_statements xs (word wd.End ∷ token s.Dot ∷ token s.Stop ∷ more) in let m = move_declarations old ds n.to in
    filled (behind (along m.swap n.swap))
    (λ q. of_unit i (λ segment. resegment_all segment m.whole.spelled) n.whole.spelled refl refl refl q))
declaration_completed (od.unit_dot {segment = old} {z = z} i ds xs j) o = open_at (token s.Dot ∷ token s.Stop ∷ []) (λ _. o) (λ more.
    let n = move_statements xs (z ∷ token s.Dot ∷ token s.Stop ∷ more) in let m = move_declarations old ds n.to in
    filled (behind (along m.swap (along n.swap (behind same))))
    (λ q. of_unit i (λ segment. resegment_all segment m.whole.spelled) n.whole.spelled j refl refl q))
declaration_completed (od.unit_stop {segment = old} {z = z} {d = d} i ds xs j k) o = open_at (token s.Stop ∷ []) (λ _. o) (λ more.
    let n = move_statements xs (z ∷ d ∷ token s.Stop ∷ more) in let m = move_declarations old ds n.to in
    filled (behind (along m.swap (along n.swap (behind (behind same)))))
    (λ q. of_unit i (λ segment. resegment_all segment m.whole.spelled) n.whole.spelled j k refl q))

-- a unit that is open lacks a token
pub unit_lacks : {q : Part} {ts mid rest : List Lexeme} (step : DeclarationStep part.unit ts q mid) (o : Completed q mid rest)
    → 1 ≤ length (declaration_completed step o).tail
unfolding declaration_completed around_part open_at
unit_lacks (od.unit_declarations i) o = has_token_behind o.tail (word wd.End) (token s.Dot ∷ token s.Stop ∷ [])
unit_lacks (od.unit_statements i ds) o = has_token_behind o.tail (word wd.End) (token s.Dot ∷ token s.Stop ∷ [])
unit_lacks (od.unit_end i ds xs) o = has_token (word wd.End) (token s.Dot ∷ token s.Stop ∷ [])
unit_lacks (od.unit_dot i ds xs j) o = has_token (token s.Dot) (token s.Stop ∷ [])
unit_lacks (od.unit_stop i ds xs j k) o = has_token (token s.Stop) []
