-- The parts of expressions, appended one behind the other.
use Rattle.std.proofs.Common.{◌≡◌, ◌<◌, ◌≤◌, ℕ, suc, ◌+◌, ℤ, List, [], ◌∷◌, true, false, map, drop, length, get_or, Option, Some, None, is_none, unwrap_or, refl, ap, sym, ◌∙◌, subst, add-one}
use Rattle.std.proofs.Math.Seq.{drop-cons}
use Rattle.std.proofs.lemmas.Bool.{true≢false}
use Rattle.std.proofs.lemmas.List.{drop_all}
use Rattle.spl_tree.specs.declared.expressions.Expr.{Expr}
use Rattle.spl_tree.specs.declared.expressions.Ref.{Ref}
use Rattle.spl_tree.specs.declared.names_and_places.At.{At}
use Rattle.spl_tree.specs.declared.expressions.Kind.{Kind}
use Rattle.spl_tree.specs.Views as view
use Rattle.spl_tree.specs.Trees as tree
use Rattle.spl_tree.specs.Trees.{Tree, Trees, Constant, trees, and, none}
use Rattle.spl_sorts.specs.spl_meaning.Names as n
use Rattle.spl_sorts.specs.spl_meaning.Names.{Sort, Formal, Profile}
use Rattle.spl_sorts.specs.spl_meaning.Kinds.{Operand, Class, kind_of, operand_width, class_of, relation_number, callable}
use Rattle.spl_sorts.specs.spl_meaning.Pending.{formal_words, first_formal, other_formals, result_words}
use Rattle.spl_sorts.specs.spl_meaning.Values.{sense_of, text_bytes, small_constant}
use Rattle.spl_branch.specs.declared.buffer.Code.{Code}
use Rattle.spl_branch.specs.declared.pieces.Piece.TheVariants.{Mark}
use Rattle.spl_operations.specs.spl_code.Parts.{Part, pieces, piece, nothing, ◌⨟◌}
use Rattle.spl_operations.specs.spl_code.Instructions.{BR, CMPB}
use Rattle.spl_operations.specs.spl_code.Constants.{number_constant}
use Rattle.spl_operations.specs.spl_code.Operators.{operator, comparison, shift_operator, field_operator, transfer}
use Rattle.spl_operations.specs.spl_code.Calls.{Scope, result_taken}
use Rattle.spl_operations.specs.spl_code.Code.{Aim, as_test, as_value, either_of, code, reference, argument, arguments, named, calling, related, text_compared}
use Rattle.spl_operations.specs.spl_code.Appends.{Appends}
use Rattle.spl_operations.proofs.spl_code_proofs.AppendLaws.{then_appends, none_appends}
use Rattle.spl_gen_expr.specs.Marks.{Within, Sets}
use Rattle.spl_gen_expr.specs.Phrases.{equated, called_by, element_part, named_part, call_part, both_values, value_part, relation_part, text_part, both_part, either_part, bytes_part}
use Rattle.spl_gen_expr.proofs.MarkLemmas.{within_start, within_then, within_first, within_second, within_closed}

-- None is no Some
none-some : {A : Type 0} {a : A} → None ≡ Some a → ⊥
none-some h = true≢false (ap is_none h)

-- three parts, four and five
pub three_append : {p q r : Part} {c d e f : Code} → Appends p c d → Appends q d e → Appends r e f → Appends (p ⨟ q ⨟ r) c f
three_append x y z = then_appends (then_appends x y) z

pub four_append : {p q r s : Part} {c d e f g : Code} → Appends p c d → Appends q d e → Appends r e f → Appends s f g → Appends (p ⨟ q ⨟ r ⨟ s) c g
four_append x y z w = then_appends (three_append x y z) w

pub five_append : {p q r s t : Part} {c d e f g h : Code} → Appends p c d → Appends q d e → Appends r e f → Appends s f g → Appends t g h
    → Appends (p ⨟ q ⨟ r ⨟ s ⨟ t) c h
five_append x y z w v = then_appends (four_append x y z w) v

-- OR as a test, by its marks
abbrev either_parts : (Aim → Part) → (Aim → Part) → ℕ → ℕ → ℕ → Part
either_parts a b fail next over = a (as_test next) ⨟ piece (BR over) ⨟ piece (Mark next) ⨟ b (as_test fail) ⨟ piece (Mark over)

pub either_appends : (a b : Aim → Part) (fail next over : ℕ) (c c0 c1 c2 c3 c4 c5 : Code) → next ≡ length c.marks.items → over ≡ next + 1
    → Within false false nothing c c0 → Appends (a (as_test next)) c0 c1 → Appends (piece (BR over)) c1 c2 → Sets next c2 c3
    → Appends (b (as_test fail)) c3 c4 → Sets over c4 c5 → Appends (either_of a b fail) c c5
either_appends a b fail next over c c0 c1 c2 c3 c4 c5 is behind w x y s z t =
    let os : over ≡ suc (length c.marks.items) = behind ∙ add-one next ∙ ap (λ n. suc n) is in
    let all : Within true true (either_parts a b fail next over) c c5 =
    within_second (within_then (within_first (within_then (within_start w x) y) s is) z) t os in
    within_closed (either_parts a b fail)
    (subst (λ l. Within true true (either_parts a b fail l (suc (length c.marks.items))) c c5) is
    (subst (λ m. Within true true (either_parts a b fail next m) c c5) os all))

-- ---- arguments in a loop

-- one argument more, which has a parameter
pub argument_step : (s : Scope) (f : Formal) (fs : List Formal) (k : ℕ) (list : List Expr) (i : ℕ) (e : Expr) → i < length list → e ≡ get_or list i e
    → arguments s (f ∷ fs) (trees (map view.expression (drop i list))) k
    ≡ arguments s (f ∷ fs) (and (view.expression e) (trees (map view.expression (drop (i + 1) list)))) k
argument_step s f fs k list i e lt is =
    ap (λ es. arguments s (f ∷ fs) (trees (map view.expression es)) k) (drop-cons list i e lt ∙ ap (λ y. y ∷ drop (suc i) list) (sym is))
    ∙ ap (λ j. arguments s (f ∷ fs) (and (view.expression e) (trees (map view.expression (drop j list)))) k) (sym (add-one i))

-- what is appended with the rest of the arguments is all; so it is behind one argument more
pub arguments_more : (s : Scope) (all : Part) (f : Formal) (fs : List Formal) (k m : ℕ) (list : List Expr) (i : ℕ) (e : Expr) (c0 c c2 : Code)
    → i < length list → e ≡ get_or list i e → m ≡ k + formal_words f
    → ((d : Code) → Appends (arguments s (f ∷ fs) (trees (map view.expression (drop i list))) k) c d → Appends all c0 d)
    → Appends (argument f (code s (view.expression e) as_value k) (reference s (view.expression e) k)) c c2
    → (d : Code) → Appends (arguments s fs (trees (map view.expression (drop (i + 1) list))) m) c2 d → Appends all c0 d
arguments_more s all f fs k m list i e c0 c c2 lt is sum so one d rest =
    let due : Appends (arguments s fs (trees (map view.expression (drop (i + 1) list))) (k + formal_words f)) c2 d =
    subst (λ n. Appends (arguments s fs (trees (map view.expression (drop (i + 1) list))) n) c2 d) sum rest in
    so d (subst (λ p. Appends p c d) (sym (argument_step s f fs k list i e lt is)) (then_appends one due))

no_arguments : (s : Scope) (fs : List Formal) (k : ℕ) → arguments s fs none k ≡ nothing
no_arguments s [] k = refl
no_arguments s (f ∷ fs) k = refl

-- and at the end nothing is left
pub arguments_done : (s : Scope) (all : Part) (fs : List Formal) (k : ℕ) (list : List Expr) (i : ℕ) (c0 c : Code) → length list ≤ i
    → ((d : Code) → Appends (arguments s fs (trees (map view.expression (drop i list))) k) c d → Appends all c0 d) → Appends all c0 c
arguments_done s all fs k list i c0 c le so =
    so c (subst (λ p. Appends p c c) (sym (ap (λ es. arguments s fs (trees (map view.expression es)) k) (drop_all i list le) ∙ no_arguments s fs k)) (none_appends refl))

-- where there is a first parameter, and where there is none
pub first_and_others : (fs : List Formal) (o : Option Formal) (f : Formal) → o ≡ first_formal fs → o ≡ Some f → fs ≡ f ∷ other_formals fs
first_and_others [] o f is some = absurd (none-some (sym is ∙ some))
first_and_others (g ∷ fs) o f is some = ap (λ x. unwrap_or x g ∷ fs) (sym is ∙ some)

pub no_others : (fs : List Formal) (o : Option Formal) → o ≡ first_formal fs → o ≡ None → fs ≡ []
no_others [] o is none' = refl
no_others (g ∷ fs) o is none' = absurd (none-some (sym none' ∙ is))

-- one turn of the loop over arguments
pub arguments_turn : (s : Scope) (all : Part) (gs : List Formal) (o : Option Formal) (f : Formal) (k m w : ℕ) (list : List Expr) (i : ℕ) (e : Expr) (hs : List Formal) (c0 c c2 : Code)
    → i < length list → e ≡ get_or list i e → o ≡ first_formal gs → o ≡ Some f → hs ≡ other_formals gs → w ≡ formal_words f → m ≡ k + w
    → ((d : Code) → Appends (arguments s gs (trees (map view.expression (drop i list))) k) c d → Appends all c0 d)
    → Appends (argument f (code s (view.expression e) as_value k) (reference s (view.expression e) k)) c c2
    → (d : Code) → Appends (arguments s hs (trees (map view.expression (drop (i + 1) list))) m) c2 d → Appends all c0 d
arguments_turn s all gs o f k m w list i e hs c0 c c2 lt is first some others words sum so one d rest =
    let whole : gs ≡ f ∷ other_formals gs = first_and_others gs o f first some in
    arguments_more s all f (other_formals gs) k m list i e c0 c c2 lt is (sum ∙ ap (λ n. k + n) words)
    (subst (λ xs. (d : Code) → Appends (arguments s xs (trees (map view.expression (drop i list))) k) c d → Appends all c0 d) whole so) one d
    (subst (λ xs. Appends (arguments s xs (trees (map view.expression (drop (i + 1) list))) m) c2 d) others rest)

-- no parameter is left
pub arguments_out : (s : Scope) (all : Part) (gs : List Formal) (o : Option Formal) (k : ℕ) (es : Trees) (c0 c : Code) → o ≡ first_formal gs → o ≡ None
    → ((d : Code) → Appends (arguments s gs es k) c d → Appends all c0 d) → Appends all c0 c
arguments_out s all gs o k es c0 c first out so =
    so c (subst (λ xs. Appends (arguments s xs es k) c c) (sym (no_others gs o first out)) (none_appends refl))

-- ---- names

named_variable : (s : Scope) (x : List ℕ) (o : Option Sort) (args : Profile → Part) (at : Part) → equated o ≡ None → callable o ≡ None → at ≡ named s x (sense_of x o) args at
named_variable s x None args at e c = refl
named_variable s x (Some (n.simple k own)) args at e c = refl
named_variable s x (Some (n.array k own l h)) args at e c = refl
named_variable s x (Some (n.view k own b)) args at e c = refl
named_variable s x (Some (n.pointer k own)) args at e c = refl
named_variable s x (Some (n.value k)) args at e c = refl
named_variable s x (Some (n.by_reference k)) args at e c = refl
named_variable s x (Some (n.array_parameter k)) args at e c = refl
named_variable s x (Some (n.equate v)) args at e c = absurd (none-some (sym e))
named_variable s x (Some n.label) args at e c = refl
named_variable s x (Some (n.intrinsic i)) args at e c = absurd (none-some (sym c))
named_variable s x (Some (n.procedure p)) args at e c = absurd (none-some (sym c))
named_variable s x (Some (n.subroutine p)) args at e c = absurd (none-some (sym c))
named_variable s x (Some n.unknown) args at e c = refl

named_constant : (s : Scope) (x : List ℕ) (o : Option Sort) (v : Option ℤ) (args : Profile → Part) (at : Part) → equated o ≡ Some v → number_constant v ≡ named s x (sense_of x o) args at
named_constant s x None v args at e = absurd (none-some e)
named_constant s x (Some (n.simple k own)) v args at e = absurd (none-some e)
named_constant s x (Some (n.array k own l h)) v args at e = absurd (none-some e)
named_constant s x (Some (n.view k own b)) v args at e = absurd (none-some e)
named_constant s x (Some (n.pointer k own)) v args at e = absurd (none-some e)
named_constant s x (Some (n.value k)) v args at e = absurd (none-some e)
named_constant s x (Some (n.by_reference k)) v args at e = absurd (none-some e)
named_constant s x (Some (n.array_parameter k)) v args at e = absurd (none-some e)
named_constant s x (Some (n.equate w)) v args at e = ap (λ y. number_constant (unwrap_or y w)) (sym e)
named_constant s x (Some n.label) v args at e = absurd (none-some e)
named_constant s x (Some (n.intrinsic i)) v args at e = absurd (none-some e)
named_constant s x (Some (n.procedure p)) v args at e = absurd (none-some e)
named_constant s x (Some (n.subroutine p)) v args at e = absurd (none-some e)
named_constant s x (Some n.unknown) v args at e = absurd (none-some e)

named_called : (s : Scope) (x : List ℕ) (o : Option Sort) (p : Profile) (args : Profile → Part) (at : Part) → callable o ≡ Some p
    → calling p (args p) (called_by s x o) ≡ named s x (sense_of x o) args at
named_called s x None p args at e = absurd (none-some e)
named_called s x (Some (n.simple k own)) p args at e = absurd (none-some e)
named_called s x (Some (n.array k own l h)) p args at e = absurd (none-some e)
named_called s x (Some (n.view k own b)) p args at e = absurd (none-some e)
named_called s x (Some (n.pointer k own)) p args at e = absurd (none-some e)
named_called s x (Some (n.value k)) p args at e = absurd (none-some e)
named_called s x (Some (n.by_reference k)) p args at e = absurd (none-some e)
named_called s x (Some (n.array_parameter k)) p args at e = absurd (none-some e)
named_called s x (Some (n.equate w)) p args at e = absurd (none-some e)
named_called s x (Some n.label) p args at e = absurd (none-some e)
named_called s x (Some (n.intrinsic i)) p args at e =
    ap (λ y. calling (unwrap_or y p) (args (unwrap_or y p)) (called_by s x (Some (n.intrinsic i)))) (sym e)
named_called s x (Some (n.procedure q)) p args at e =
    ap (λ y. calling (unwrap_or y p) (args (unwrap_or y p)) (called_by s x (Some (n.procedure q)))) (sym e)
named_called s x (Some (n.subroutine q)) p args at e =
    ap (λ y. calling (unwrap_or y p) (args (unwrap_or y p)) (called_by s x (Some (n.subroutine q)))) (sym e)
named_called s x (Some n.unknown) p args at e = absurd (none-some e)

-- the arguments of a call
abbrev given : Scope → Trees → ℕ → Profile → Part
given s es k p = arguments s p.formals es (k + result_words p)

pub name_is_variable : (s : Scope) (x : List ℕ) (es : Trees) (k : ℕ) (o : Option Sort) (c d : Code) → o ≡ s.names x → None ≡ equated o → None ≡ callable o
    → Appends (element_part s x es k) c d → Appends (named_part s x es k) c d
name_is_variable s x es k o c d is e f a =
    subst (λ p. Appends p c d) (named_variable s x o (given s es k) (element_part s x es k) (sym e) (sym f) ∙ ap (λ o. named s x (sense_of x o) (given s es k) (element_part s x es k)) is) a

pub name_is_constant : (s : Scope) (x : List ℕ) (es : Trees) (k : ℕ) (o : Option Sort) (v : Option ℤ) (c d : Code) → o ≡ s.names x → Some v ≡ equated o
    → Appends (number_constant v) c d → Appends (named_part s x es k) c d
name_is_constant s x es k o v c d is e a =
    subst (λ p. Appends p c d) (named_constant s x o v (given s es k) (element_part s x es k) (sym e) ∙ ap (λ o. named s x (sense_of x o) (given s es k) (element_part s x es k)) is) a

pub name_is_called : (s : Scope) (x : List ℕ) (es : Trees) (k : ℕ) (o : Option Sort) (p : Profile) (c d e f : Code) → o ≡ s.names x → Some p ≡ callable o
    → Appends (call_part s p es k) c d → Appends (called_by s x o) d e → Appends (pieces (result_taken p.result)) e f → Appends (named_part s x es k) c f
name_is_called s x es k o p c d e f is some x1 x2 x3 =
    subst (λ q. Appends q c f) (named_called s x o p (given s es k) (element_part s x es k) (sym some) ∙ ap (λ o. named s x (sense_of x o) (given s es k) (element_part s x es k)) is) (then_appends (then_appends x1 x2) x3)

-- ---- operators

two_values : (s : Scope) (x x' y y' : Expr) (k m w : ℕ) (oa : Operand) (c d f : Code) → x ≡ x' → y ≡ y' → oa ≡ kind_of s.names (view.expression x) → w ≡ operand_width oa
    → m ≡ k + w → Appends (code s (view.expression x) as_value k) c d → Appends (code s (view.expression y) as_value m) d f
    → Appends (both_values s (view.expression x') (view.expression y') k) c f
two_values s x x' y y' k m w oa c d f ix iy ka wide sum a b =
    let behind : m ≡ k + operand_width (kind_of s.names (view.expression x)) = sum ∙ ap (λ n. k + n) (wide ∙ ap operand_width ka) in
    let b' : Appends (code s (view.expression y) as_value (k + operand_width (kind_of s.names (view.expression x)))) d f =
    subst (λ n. Appends (code s (view.expression y) as_value n) d f) behind b in
    subst (λ z. Appends (both_values s (view.expression z) (view.expression y') k) c f) ix
    (subst (λ z. Appends (both_values s (view.expression x) (view.expression z) k) c f) iy (then_appends a b'))

same_class : (s : Scope) (x x' y y' : Expr) (oa ob : Operand) (cl : Class) → x ≡ x' → y ≡ y' → oa ≡ kind_of s.names (view.expression x)
    → ob ≡ kind_of s.names (view.expression y) → cl ≡ class_of oa ob → cl ≡ class_of (kind_of s.names (view.expression x')) (kind_of s.names (view.expression y'))
same_class s x x' y y' oa ob cl ix iy ka kb is =
    is ∙ ap (λ o. class_of o ob) (ka ∙ ap (λ z. kind_of s.names (view.expression z)) ix)
    ∙ ap (λ o. class_of (kind_of s.names (view.expression x')) o) (kb ∙ ap (λ z. kind_of s.names (view.expression z)) iy)

pub binary_done : (s : Scope) (op : ℕ) (x x' y y' : Expr) (at : At) (e : Tree) (k m w : ℕ) (oa ob : Operand) (cl : Class) (c d f g : Code)
    → e ≡ tree.Tree.binary op (view.expression x') (view.expression y') at → x ≡ x' → y ≡ y'
    → oa ≡ kind_of s.names (view.expression x) → ob ≡ kind_of s.names (view.expression y) → w ≡ operand_width oa → m ≡ k + w → cl ≡ class_of oa ob
    → Appends (code s (view.expression x) as_value k) c d → Appends (code s (view.expression y) as_value m) d f → Appends (pieces (operator cl op)) f g
    → Appends (value_part s e k) c g
binary_done s op x x' y y' at e k m w oa ob cl c d f g is ix iy ka kb wide sum same a b o =
    subst (λ t. Appends (value_part s t k) c g) (sym is)
    (then_appends (two_values s x x' y y' k m w oa c d f ix iy ka wide sum a b)
    (subst (λ z. Appends (pieces (operator z op)) f g) (same_class s x x' y y' oa ob cl ix iy ka kb same) o))

pub relation_done : (s : Scope) (op : ℕ) (x x' y y' : Expr) (at : At) (e : Tree) (k m w n fail : ℕ) (oa ob : Operand) (cl : Class) (c d f g h : Code)
    → e ≡ tree.Tree.binary op (view.expression x') (view.expression y') at → x ≡ x' → y ≡ y'
    → oa ≡ kind_of s.names (view.expression x) → ob ≡ kind_of s.names (view.expression y) → w ≡ operand_width oa → m ≡ k + w → cl ≡ class_of oa ob
    → n ≡ relation_number op
    → Appends (code s (view.expression x) as_value k) c d → Appends (code s (view.expression y) as_value m) d f → Appends (pieces (comparison cl)) f g
    → Appends (related n fail) g h → Appends (relation_part s e k fail) c h
relation_done s op x x' y y' at e k m w n fail oa ob cl c d f g h is ix iy ka kb wide sum same num a b o r =
    subst (λ t. Appends (relation_part s t k fail) c h) (sym is)
    (then_appends (then_appends (two_values s x x' y y' k m w oa c d f ix iy ka wide sum a b)
    (subst (λ z. Appends (pieces (comparison z)) f g) (same_class s x x' y y' oa ob cl ix iy ka kb same) o))
    (subst (λ z. Appends (related z fail) g h) num r))

pub text_done : (s : Scope) (op : ℕ) (x x' y y' : Expr) (at : At) (e : Tree) (k n fail : ℕ) (bs : List ℕ) (c d f g : Code)
    → e ≡ tree.Tree.binary op (view.expression x') (view.expression y') at → x ≡ x' → y ≡ y' → bs ≡ text_bytes (view.expression y) → n ≡ relation_number op
    → Appends (reference s (view.expression x) k) c d → Appends (text_compared bs) d f → Appends (related n fail) f g → Appends (text_part s e k fail) c g
text_done s op x x' y y' at e k n fail bs c d f g is ix iy text num a b r =
    subst (λ t. Appends (text_part s t k fail) c g) (sym is)
    (then_appends (then_appends (subst (λ z. Appends (reference s (view.expression z) k) c d) ix a)
    (subst (λ z. Appends (text_compared z) d f) (text ∙ ap (λ z. text_bytes (view.expression z)) iy) b))
    (subst (λ z. Appends (related z fail) f g) num r))

pub both_done : (s : Scope) (op : ℕ) (x x' y y' : Expr) (at : At) (e : Tree) (k fail : ℕ) (c d f : Code)
    → e ≡ tree.Tree.binary op (view.expression x') (view.expression y') at → x ≡ x' → y ≡ y'
    → Appends (code s (view.expression x) (as_test fail) k) c d → Appends (code s (view.expression y) (as_test fail) k) d f → Appends (both_part s e k fail) c f
both_done s op x x' y y' at e k fail c d f is ix iy a b =
    subst (λ t. Appends (both_part s t k fail) c f) (sym is)
    (then_appends (subst (λ z. Appends (code s (view.expression z) (as_test fail) k) c d) ix a) (subst (λ z. Appends (code s (view.expression z) (as_test fail) k) d f) iy b))

pub either_done : (s : Scope) (op : ℕ) (x x' y y' : Expr) (at : At) (e : Tree) (k fail next over : ℕ) (c c0 c1 c2 c3 c4 c5 : Code)
    → e ≡ tree.Tree.binary op (view.expression x') (view.expression y') at → x ≡ x' → y ≡ y' → next ≡ length c.marks.items → over ≡ next + 1
    → Within false false nothing c c0 → Appends (code s (view.expression x) (as_test next) k) c0 c1 → Appends (piece (BR over)) c1 c2 → Sets next c2 c3
    → Appends (code s (view.expression y) (as_test fail) k) c3 c4 → Sets over c4 c5 → Appends (either_part s e k fail) c c5
either_done s op x x' y y' at e k fail next over c c0 c1 c2 c3 c4 c5 is ix iy n o w a b t z u =
    subst (λ v. Appends (either_part s v k fail) c c5) (sym is)
    (either_appends (λ v. code s (view.expression x') v k) (λ v. code s (view.expression y') v k) fail next over c c0 c1 c2 c3 c4 c5 n o w
    (subst (λ z. Appends (code s (view.expression z) (as_test next) k) c0 c1) ix a) b t
    (subst (λ z. Appends (code s (view.expression z) (as_test fail) k) c3 c4) iy z) u)

pub bytes_done : (s : Scope) (op : ℕ) (l r : Ref) (y y' : Expr) (at : At) (e : Tree) (k k1 k2 fail : ℕ) (c d f g h j : Code)
    → e ≡ tree.Tree.bytes op (view.reference l) (view.reference r) (view.expression y') at → y ≡ y' → k1 ≡ k + 1 → k2 ≡ k + 2
    → Appends (reference s (view.reference l) k) c d → Appends (reference s (view.reference r) k1) d f → Appends (code s (view.expression y) as_value k2) f g
    → Appends (piece (CMPB 0)) g h → Appends (related op fail) h j → Appends (bytes_part s e k fail) c j
bytes_done s op l r y y' at e k k1 k2 fail c d f g h j is iy one two a b v o t =
    subst (λ z. Appends (bytes_part s z k fail) c j) (sym is)
    (then_appends (then_appends (then_appends (then_appends a (subst (λ n. Appends (reference s (view.reference r) n) d f) one b))
    (subst (λ z. Appends (code s (view.expression z) as_value (k + 2)) f g) iy (subst (λ n. Appends (code s (view.expression y) as_value n) f g) two v))) o) t)

-- ---- one operand

pub shift_done : (s : Scope) (op : ℕ) (x x' : Expr) (by : Constant) (at : At) (e : Tree) (k count : ℕ) (c d f : Code)
    → e ≡ tree.Tree.shift op (view.expression x') by at → x ≡ x' → count ≡ small_constant s.names by
    → Appends (code s (view.expression x) as_value k) c d → Appends (pieces (shift_operator op count)) d f → Appends (value_part s e k) c f
shift_done s op x x' by at e k count c d f is ix n a o =
    subst (λ t. Appends (value_part s t k) c f) (sym is)
    (then_appends (subst (λ z. Appends (code s (view.expression z) as_value k) c d) ix a) (subst (λ z. Appends (pieces (shift_operator op z)) d f) n o))

pub field_done : (s : Scope) (x x' : Expr) (start size : Constant) (at : At) (e : Tree) (k first long : ℕ) (c d f : Code)
    → e ≡ tree.Tree.field (view.expression x') start size at → x ≡ x' → first ≡ small_constant s.names start → long ≡ small_constant s.names size
    → Appends (code s (view.expression x) as_value k) c d → Appends (pieces (field_operator first long)) d f → Appends (value_part s e k) c f
field_done s x x' start size at e k first long c d f is ix n m a o =
    subst (λ t. Appends (value_part s t k) c f) (sym is)
    (then_appends (subst (λ z. Appends (code s (view.expression z) as_value k) c d) ix a)
    (subst (λ z. Appends (pieces (field_operator z (small_constant s.names size))) d f) n (subst (λ z. Appends (pieces (field_operator first z)) d f) m o)))

pub transfer_done : (s : Scope) (to : Kind) (x x' : Expr) (at : At) (e : Tree) (k : ℕ) (oa : Operand) (c d f : Code)
    → e ≡ tree.Tree.transfer to (view.expression x') at → x ≡ x' → oa ≡ kind_of s.names (view.expression x)
    → Appends (code s (view.expression x) as_value k) c d → Appends (pieces (transfer to oa)) d f → Appends (value_part s e k) c f
transfer_done s to x x' at e k oa c d f is ix ka a o =
    subst (λ t. Appends (value_part s t k) c f) (sym is)
    (then_appends (subst (λ z. Appends (code s (view.expression z) as_value k) c d) ix a)
    (subst (λ z. Appends (pieces (transfer to z)) d f) (ka ∙ ap (λ z. kind_of s.names (view.expression z)) ix) o))
