-- Expressions mean the same with either table of places.
use Rattle.std.proofs.Common.{◌≡◌, ℕ, ◌+◌, Bool, true, false, List, [], ◌∷◌, ◌++◌, Option, Some, None, refl, ap, ◌∙◌}
use Rattle.std.specs.Prelude.{◌&&◌, if◌then◌else◌}
use Rattle.spl_module_code.specs.spl_tree.declared.expressions.Kind.{Kind}
use Rattle.spl_module_code.specs.spl_tree.Trees as tree
use Rattle.spl_module_code.specs.spl_tree.Trees.{Tree, Trees}
use Rattle.spl_module_code.specs.spl_meaning.Elements.{with_one, compared_by, compared_text, relation_told}
use Rattle.spl_module_code.specs.spl_meaning.Kinds.{kind_of, operand_width, is_connective, compares_text, relation_number}
use Rattle.spl_module_code.specs.spl_meaning.Names as n
use Rattle.spl_module_code.specs.spl_meaning.Names.{Names, Sort, Formal, Profile}
use Rattle.spl_module_code.specs.spl_meaning.Operations.{joined, signed_done, shift_done, field_done, transferred}
use Rattle.spl_module_code.specs.spl_meaning.Pending.{result_words, formal_words}
use Rattle.spl_module_code.specs.spl_meaning.Places.{Place}
use Rattle.spl_module_code.specs.spl_meaning.References.{Here, Setting, Access, its_own, by_address, by_cell, its_result, nowhere, access_of, Located, own_located, passed_located, led_located, index_or_zero, locate_by, locate, read}
use Rattle.spl_module_code.specs.spl_meaning.States.{State, Outcome, done, then_go}
use Rattle.spl_values.proofs.WholeLemmas.{then_same}
use Rattle.spl_module_code.specs.spl_meaning.Values.{Callee, Sense, a_constant, an_intrinsic, a_call, a_variable, sense_of, as_index, named_value, address_done, connected, text_bytes, argument, value, located, index, arguments, small_constant}
use Rattle.spl_module_code.specs.Bodies.{is_called}
use Rattle.spl_readings.specs.Readings.{here_with, PlaceAlike}

-- ---- one after another

-- what comes behind the same
pub then_alike : {A B : Type 0} (o p : Outcome A) (f g : A → State → Outcome B) → o ≡ p → ((a : A) (s : State) → f a s ≡ g a s) → then_go o f ≡ then_go p g
then_alike {A = A} o p f g e same = ap (λ (x : Outcome A). then_go x f) e ∙ then_same p f g same

-- what is the same of each argument is the same
pub each_alike : {A B : Type 0} (f g : A → B) → ((a : A) → f a ≡ g a) → f ≡ g
each_alike f g same j a = same a j

-- either of the same
pub if_alike : {A : Type 0} (b : Bool) (x y u v : A) → x ≡ u → y ≡ v → (if b then x else y) ≡ (if b then u else v)
if_alike true x y u v e f = e
if_alike false x y u v e f = f

-- a value of one word, and what comes behind it
pub one_alike : {A : Type 0} (vs : List ℕ) (s : State) (f g : ℕ → State → Outcome A) → ((v : ℕ) (t : State) → f v t ≡ g v t) → with_one vs s f ≡ with_one vs s g
one_alike [] s f g same = refl
one_alike (v ∷ []) s f g same = same v s
one_alike (v ∷ u ∷ vs) s f g same = refl

module _ (names : Names) (results : List ℕ → Option (Kind × Place)) (st : Setting) (one other : List ℕ → Option Place) (call : Callee)
    (alike : PlaceAlike names one other) where
  abbrev h : Here
  h = here_with names results st one

  abbrev g : Here
  g = here_with names results st other

  -- ---- names

  -- by how a name leads to a word
  pub access_alike : (x : List ℕ) (a : Access) (i : Option ℕ) (s : State) → one x ≡ other x → locate_by h x a i s ≡ locate_by g x a i s
  access_alike x (its_own k) i s e = ap (λ (p : Option Place). own_located k p i s) e
  access_alike x (by_address k) i s e = ap (λ (p : Option Place). passed_located k p i s) e
  access_alike x (by_cell is_pointer k) i s e = ap (λ (p : Option Place). led_located (is_pointer && st.split) k p (index_or_zero i) s) e
  access_alike x its_result i s e = refl
  access_alike x nowhere i s e = refl

  sort_alike : (x : List ℕ) (o : Option Sort) → names x ≡ o → (i : Option ℕ) (s : State) → locate_by h x (access_of o) i s ≡ locate_by g x (access_of o) i s
  sort_alike x (Some (n.procedure p)) e i s = refl
  sort_alike x (Some (n.subroutine p)) e i s = refl
  sort_alike x None e i s = refl
  sort_alike x (Some (n.equate v)) e i s = refl
  sort_alike x (Some (n.simple t own)) e i s = access_alike x (its_own t) i s (alike x (ap is_called e))
  sort_alike x (Some (n.array t own low high)) e i s = access_alike x (by_cell false t) i s (alike x (ap is_called e))
  sort_alike x (Some (n.view t own base)) e i s = access_alike x (by_cell false t) i s (alike x (ap is_called e))
  sort_alike x (Some (n.pointer t own)) e i s = access_alike x (by_cell true t) i s (alike x (ap is_called e))
  sort_alike x (Some (n.value t)) e i s = access_alike x (its_own t) i s (alike x (ap is_called e))
  sort_alike x (Some (n.by_reference t)) e i s = access_alike x (by_address t) i s (alike x (ap is_called e))
  sort_alike x (Some (n.array_parameter t)) e i s = access_alike x (by_cell false t) i s (alike x (ap is_called e))
  sort_alike x (Some n.label) e i s = refl
  sort_alike x (Some (n.intrinsic j)) e i s = refl
  sort_alike x (Some n.unknown) e i s = refl

  pub locate_alike : (x : List ℕ) (i : Option ℕ) (s : State) → locate h x i s ≡ locate g x i s
  locate_alike x i s = sort_alike x (names x) refl i s

  -- ---- expressions

  -- a name by its sense
  sense_alike : (x : List ℕ) (sense : Sense) (by_index : State → Outcome (Option ℕ)) (by_arguments : Profile → State → Outcome (List ℕ)) (k : ℕ) (s : State)
      → named_value h x sense by_index by_arguments call k s ≡ named_value g x sense by_index by_arguments call k s
  sense_alike x (a_constant v) by_index by_arguments k s = refl
  sense_alike x (an_intrinsic i) by_index by_arguments k s = refl
  sense_alike x (a_call who p) by_index by_arguments k s = refl
  sense_alike x a_variable by_index by_arguments k s =
      then_alike (by_index s) (by_index s) (λ i t. then_go (locate h x i t) (λ p u. read p u)) (λ i t. then_go (locate g x i t) (λ p u. read p u)) refl
      (λ i t. ap (λ (o : Outcome Located). then_go o (λ p u. read p u)) (locate_alike x i t))

  mutual
    pub value_alike : (e : Tree) (k : ℕ) (s : State) → value h call e k s ≡ value g call e k s
    value_alike (tree.Tree.number v) k s = refl
    value_alike (tree.Tree.wide v) k s = refl
    value_alike (tree.Tree.text bytes) k s = refl
    value_alike (tree.Tree.truth b) k s = refl
    value_alike (tree.Tree.named x es at) k s =
        ap (λ (f : State → Outcome (Option ℕ)). named_value h x (sense_of x (names x)) f (λ p t. arguments h call p.formals es (k + result_words p) t) call k s)
        (each_alike (λ t. index h call es k t) (λ t. index g call es k t) (λ t. index_alike es k t))
        ∙ ap (λ (f : Profile → State → Outcome (List ℕ)). named_value h x (sense_of x (names x)) (λ t. index g call es k t) f call k s) (each_alike (λ p. λ t. arguments h call p.formals es (k + result_words p) t) (λ p. λ t. arguments g call p.formals es (k + result_words p) t)
        (λ p. each_alike (λ t. arguments h call p.formals es (k + result_words p) t) (λ t. arguments g call p.formals es (k + result_words p) t)
        (λ t. arguments_alike p.formals es (k + result_words p) t)))
        ∙ sense_alike x (sense_of x (names x)) (λ t. index g call es k t) (λ p t. arguments g call p.formals es (k + result_words p) t) k s
    value_alike (tree.Tree.address x es at) k s =
        then_alike (index h call es k s) (index g call es k s) (λ i t. then_go (locate h x i t) address_done) (λ i t. then_go (locate g x i t) address_done)
        (index_alike es k s) (λ i t. ap (λ (o : Outcome Located). then_go o address_done) (locate_alike x i t))
    value_alike (tree.Tree.unary op e at) k s =
        ap (λ (o : Outcome (List ℕ)). then_go o (λ vs t. signed_done op (kind_of names e) vs t)) (value_alike e k s)
    value_alike (tree.Tree.binary op a b at) k s =
        if_alike (is_connective op) _ _ _ _
        (then_alike (value h call a k s) (value g call a k s) (λ vs t. connected op vs t (λ u. value h call b k u)) (λ vs t. connected op vs t (λ u. value g call b k u))
        (value_alike a k s) (λ vs t. ap (λ (f : State → Outcome (List ℕ)). connected op vs t f) (each_alike (λ u. value h call b k u) (λ u. value g call b k u) (λ u. value_alike b k u))))
        (if_alike (compares_text names op a b) _ _ _ _
        (ap (λ (o : Outcome Located). then_go o (λ p t. relation_told (relation_number op) (compared_text p (text_bytes b) t))) (located_alike a k s))
        (then_alike (value h call a k s) (value g call a k s)
        (λ vs t. then_go (value h call b (k + operand_width (kind_of names a)) t) (λ us u. joined op (kind_of names a) (kind_of names b) vs us u))
        (λ vs t. then_go (value g call b (k + operand_width (kind_of names a)) t) (λ us u. joined op (kind_of names a) (kind_of names b) vs us u))
        (value_alike a k s)
        (λ vs t. ap (λ (o : Outcome (List ℕ)). then_go o (λ us u. joined op (kind_of names a) (kind_of names b) vs us u))
        (value_alike b (k + operand_width (kind_of names a)) t))))
    value_alike (tree.Tree.shift op e by' at) k s =
        ap (λ (o : Outcome (List ℕ)). then_go o (λ vs t. shift_done op (small_constant names by') vs t)) (value_alike e k s)
    value_alike (tree.Tree.field e start size at) k s =
        ap (λ (o : Outcome (List ℕ)). then_go o (λ vs t. field_done (small_constant names start) (small_constant names size) vs t)) (value_alike e k s)
    value_alike (tree.Tree.transfer to e at) k s =
        ap (λ (o : Outcome (List ℕ)). then_go o (λ vs t. transferred to (kind_of names e) vs t)) (value_alike e k s)
    value_alike (tree.Tree.bytes op a b count at) k s =
        then_alike (located h call a k s) (located g call a k s) _ _ (located_alike a k s) (λ p t.
        then_alike (located h call b (k + 1) t) (located g call b (k + 1) t) _ _ (located_alike b (k + 1) t) (λ q u.
        ap (λ (o : Outcome (List ℕ)). then_go o (λ vs w. with_one vs w (λ size y. relation_told op (compared_by size p q y)))) (value_alike count (k + 2) u)))

    pub located_alike : (e : Tree) (k : ℕ) (s : State) → located h call e k s ≡ located g call e k s
    located_alike (tree.Tree.named x es at) k s =
        then_alike (index h call es k s) (index g call es k s) (λ i t. locate h x i t) (λ i t. locate g x i t) (index_alike es k s) (λ i t. locate_alike x i t)
    located_alike (tree.Tree.number v) k s = refl
    located_alike (tree.Tree.wide v) k s = refl
    located_alike (tree.Tree.text bytes) k s = refl
    located_alike (tree.Tree.truth b) k s = refl
    located_alike (tree.Tree.address x es at) k s = refl
    located_alike (tree.Tree.unary op e at) k s = refl
    located_alike (tree.Tree.binary op a b at) k s = refl
    located_alike (tree.Tree.shift op e by' at) k s = refl
    located_alike (tree.Tree.field e start size at) k s = refl
    located_alike (tree.Tree.transfer to e at) k s = refl
    located_alike (tree.Tree.bytes op a b count at) k s = refl

    pub index_alike : (es : Trees) (k : ℕ) (s : State) → index h call es k s ≡ index g call es k s
    index_alike tree.Trees.none k s = refl
    index_alike (tree.Trees.and e es) k s = ap (λ (o : Outcome (List ℕ)). then_go o as_index) (value_alike e k s)

    pub arguments_alike : (fs : List Formal) (es : Trees) (k : ℕ) (s : State) → arguments h call fs es k s ≡ arguments g call fs es k s
    arguments_alike [] tree.Trees.none k s = refl
    arguments_alike [] (tree.Trees.and e es) k s = refl
    arguments_alike (f ∷ fs) tree.Trees.none k s = refl
    arguments_alike (f ∷ fs) (tree.Trees.and e es) k s =
        then_alike (argument f (λ t. value h call e k t) (λ t. located h call e k t) s) (argument f (λ t. value g call e k t) (λ t. located g call e k t) s) _ _
        (ap (λ (v : State → Outcome (List ℕ)). argument f v (λ t. located h call e k t) s) (each_alike (λ t. value h call e k t) (λ t. value g call e k t) (λ t. value_alike e k t))
        ∙ ap (λ (l : State → Outcome Located). argument f (λ t. value g call e k t) l s) (each_alike (λ t. located h call e k t) (λ t. located g call e k t) (λ t. located_alike e k t)))
        (λ ws t. ap (λ (o : Outcome (List ℕ)). then_go o (λ vs u. done (ws ++ vs) u)) (arguments_alike fs es (k + formal_words f) t))
