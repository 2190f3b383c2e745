-- What is spelled as a part of a declaration is read.
use Rattle.std.proofs.Common.{ℕ, ◌≡◌, ◌==◌, ◌<◌, Bool, true, false, if◌then◌else◌, List, [], ◌∷◌, ◌++◌, length, refl, arith, ap, sym, ◌∙◌, append_assoc, append-nil}
use Rattle.std.proofs.lemmas.Bool.Decides.{nat_tests}
use Rattle.spl_reading.specs.spl_tree.declared.symbols.Symbol.{Symbol}
use Rattle.spl_reading.specs.spl_tree.declared.symbols.Symbol.TheVariants as s
use Rattle.spl_reading.specs.spl_tree.Symbols.{Lexeme, Is}
use Rattle.spl_reading.specs.spl_tree.Operators.{is_sign}
use Rattle.spl_reading.specs.spl_tree.Expressions as g
use Rattle.spl_reading.specs.spl_tree.Trees as tree
use Rattle.spl_reading.specs.spl_tree.DeclarationTrees as decl
use Rattle.spl_reading.specs.spl_tree.DeclarationTrees.{Placed}
use Rattle.spl_reading.specs.spl_tree.Declarations as dl
use Rattle.spl_reading.specs.spl_tree.Declarations.{Separated, one, more, Options, both, fit, option_of, no_options}
use Rattle.spl_reading.specs.Readers.{Outcome, Got, Parser, by_symbol, repeat, same_symbol, symbol_number}
use Rattle.spl_reading.specs.ReadExpressions.{is, operator_of, constant}
use Rattle.spl_reading.specs.ReadDeclarations.{more_parts, separated, name, names, item, shape, array, with_values, more_arrays, arrays, more_terms, equal}
use Rattle.spl_grammar.proofs.LocalReaders.{IsLocal}
use Rattle.spl_grammar.proofs.LocalExpressions.{local_constant}
use Rattle.spl_grammar.proofs.LocalDeclarations.{takes_more_parts, takes_more_arrays, takes_more_terms, local_name, local_item, local_equal}
use Rattle.spl_grammar.proofs.NearReaders.{Near, near_to, near_then, near_pure, near_take, near_symbol, near_head, near_if, near_else, near_expect, near_turn, near_last, same_self}
use Rattle.spl_grammar.proofs.CompleteExpressions.{complete_constant}
use Rattle.spl_grammar.proofs.PartTokens as pt
use Rattle.spl_grammar.proofs.FirstTokens.{Begins, with_first, by_is}

-- what ends a list of names, items or constants: ";" or ")"
pub data Ends : List Lexeme → Type 0 where
  semicolon : {t : Lexeme} {ts : List Lexeme} → Is s.Semicolon t → Ends (t ∷ ts)
  close : {t : Lexeme} {ts : List Lexeme} → Is s.Close t → Ends (t ∷ ts)

-- what ends one of them: that, or ","
pub data PartEnds : List Lexeme → Type 0 where
  comma : {t : Lexeme} {ts : List Lexeme} → Is s.Comma t → PartEnds (t ∷ ts)
  list_ends : {ts : List Lexeme} → Ends ts → PartEnds ts

ends_test : {test : Symbol → Bool} {b : Bool} {ts : List Lexeme} → test s.Semicolon ≡ b → test s.Close ≡ b → Ends ts
    → Begins test b ts
ends_test e f (semicolon i) = by_is _ _ _ _ _ i e
ends_test e f (close i) = by_is _ _ _ _ _ i f

part_test : {test : Symbol → Bool} {b : Bool} {ts : List Lexeme} → test s.Comma ≡ b → test s.Semicolon ≡ b
    → test s.Close ≡ b → PartEnds ts → Begins test b ts
part_test d e f (comma i) = by_is _ _ _ _ _ i d
part_test d e f (list_ends a) = ends_test e f a

pub no_comma : {ts : List Lexeme} → Ends ts → Begins (is s.Comma) false ts
unfolding same_symbol symbol_number
no_comma a = ends_test refl refl a

no_assign : {ts : List Lexeme} → PartEnds ts → Begins (is s.Assign) false ts
unfolding same_symbol symbol_number
no_assign a = part_test refl refl refl a

no_sign : {ts : List Lexeme} → PartEnds ts → Begins (λ k. is_sign (operator_of k)) false ts
unfolding operator_of
no_sign a = part_test refl refl refl a

pub choose_else : {A : Type 0} (test : Symbol → Bool) (p : Parser A) {q : Parser A} {ts m : List Lexeme}
    {y : Outcome A} → Begins test false ts → Near q ts m y
    → Near (by_symbol (λ k. if test k then p else q)) ts m y
choose_else test p (with_first b) n = near_head _ (near_else _ b n)

-- parts with commas between: the first, and the loop of the others
pub record PartsRead {A : Type 0} (part : Parser A) (xs : List A) (ts rest : List Lexeme) : Type 0 where
  pub first : A
  pub middle : List Lexeme
  pub reads : Near part ts middle (Got first middle)
  pub others : (so_far : List A) → Near (repeat (more_parts part) (so_far ++ first ∷ [])) middle rest
      (Got (so_far ++ xs) rest)

module _ {A : Type 0} (P : A → List Lexeme → List Lexeme → Type 0) (part : Parser A) (lp : IsLocal part)
    (claim : (a : A) (ts rest : List Lexeme) → P a ts rest → PartEnds rest → Near part ts rest (Got a rest)) where
  parts_read : {xs : List A} {ts rest : List Lexeme} → Separated P xs ts rest → Ends rest → PartsRead part xs ts rest
  unfolding more_parts
  parts_read {rest = rest} (one {a = a} p) e = record {
    first = a;
    middle = rest;
    reads = claim a _ rest p (list_ends e);
    others = λ so_far. near_last _ (choose_else (is s.Comma) _ (no_comma e) (near_pure _ _));
  }
  parts_read {rest = rest} (more {a = a} {bs = bs} {k = k} {mid = mid} p i l) e = let r = parts_read l e in
      record {
        first = a;
        middle = k ∷ mid;
        reads = claim a _ (k ∷ mid) p (comma i);
        others = λ so_far. near_turn {v = (so_far ++ a ∷ []) ++ r.first ∷ []} {m = r.middle} (takes_more_parts part lp)
            (let n = r.reads.within in omega arith)
            (near_symbol _ i (near_if _ (same_self s.Comma)
            (near_then _ near_take (near_then _ r.reads (near_pure _ _)))))
            (near_to (r.others (so_far ++ a ∷ [])) (ap (λ us. Got us rest) (append_assoc so_far (a ∷ []) bs)));
      }

  pub separated_read : {xs : List A} {ts rest : List Lexeme} → Separated P xs ts rest → Ends rest
      → Near (separated part) ts rest (Got xs rest)
  unfolding separated
  separated_read l e = let r = parts_read l e in near_then _ r.reads (r.others [])

-- a name
name_claim : (a : Placed) (ts rest : List Lexeme) → dl.Name a ts rest → PartEnds rest → Near name ts rest (Got a rest)
unfolding name
name_claim a ts rest (dl.Name.name i) e = near_then _ (near_expect i) (near_pure _ _)

pub names_read : {ns : List Placed} {ts rest : List Lexeme} → dl.Names ns ts rest → Ends rest
    → Near names ts rest (Got ns rest)
unfolding names
names_read l e = separated_read dl.Name name local_name name_claim l e

constant_claim : (a : tree.Constant) (ts rest : List Lexeme) → g.Constant a ts rest → PartEnds rest
    → Near constant ts rest (Got a rest)
constant_claim a ts rest v e = complete_constant v

pub constants_read : {vs : List tree.Constant} {ts rest : List Lexeme} → dl.Constants vs ts rest → Ends rest
    → Near (separated constant) ts rest (Got vs rest)
constants_read l e = separated_read g.Constant constant local_constant constant_claim l e

-- an item
item_claim : (a : decl.Item) (ts rest : List Lexeme) → dl.Item a ts rest → PartEnds rest
    → Near item ts rest (Got a rest)
unfolding item
item_claim a ts rest (dl.Item.plain i) e = near_then _ (near_expect i)
    (choose_else (is s.Assign) _ (no_assign e) (near_pure _ _))
item_claim a ts rest (dl.Item.valued i k v) e = near_then _ (near_expect i)
    (near_symbol _ k (near_if _ (same_self s.Assign)
    (near_then _ near_take (near_then _ (complete_constant v) (near_pure _ _)))))

pub items_read : {is : List decl.Item} {ts rest : List Lexeme} → dl.Items is ts rest → Ends rest
    → Near (separated item) ts rest (Got is rest)
items_read l e = separated_read dl.Item item local_item item_claim l e

-- what a turn answers
abbrev pub turned : {S : Type 0} → Bool → S → Bool × S
turned b x = (b, x)

abbrev going : {S : Type 0} → S → Bool × S
going x = (true, x)

abbrev stopped : {S : Type 0} → S → Bool × S
stopped x = (false, x)

pub head_is : {test : Symbol → Bool} {b : Bool} {t : Lexeme} {ts : List Lexeme} → Begins test b (t ∷ ts)
    → test t.symbol ≡ b
head_is (with_first e) = e

sign_no_star : (op : ℕ) → is_sign op ≡ true → (op == 13) ≡ false
sign_no_star op e = grind (arith, nat_tests, e)

term_same : (k : Symbol) (op : ℕ) (v : tree.Constant) (so_far : List decl.Term) (rest : List Lexeme) → k ≡ s.Operator op
    → Got (turned true (so_far ++ record { minus = operator_of k == 12; value = v } ∷ [])) rest ≡ Got
    (turned true (so_far ++ record { minus = op == 12; value = v } ∷ [])) rest
unfolding operator_of
term_same k op v so_far rest e = rw e refl

-- the further parts of a sum of constants
terms_read : {vs : List decl.Term} {ts rest : List Lexeme} → dl.Terms vs ts rest → PartEnds rest
    → (so_far : List decl.Term) → Near (repeat more_terms so_far) ts rest (Got (so_far ++ vs) rest)
unfolding more_terms operator_of
terms_read {rest = rest} dl.Terms.none e so_far = near_to
    (near_last _ (choose_else (λ k. is_sign (operator_of k)) _ (no_sign e) (near_pure _ _)))
    (ap (λ us. Got us rest) (sym (append-nil so_far)))
terms_read {rest = rest} (dl.Terms.more {v = v} {vs = vs} {op = op} {p = p} {mid = mid} i b c l) e so_far =
    near_turn {v = so_far ++ record { minus = op == 12; value = v } ∷ []} {m = mid} takes_more_terms
    (let n = pt.shorter_constant c in omega arith)
    (near_symbol _ i (near_if _ b (near_then _ near_take
    (near_then _ (complete_constant c) (near_to (near_pure _ _) (term_same p.symbol op v so_far mid i))))))
    (near_to (terms_read l e (so_far ++ record { minus = op == 12; value = v } ∷ []))
    (ap (λ us. Got us rest) (append_assoc so_far (record { minus = op == 12; value = v } ∷ []) vs)))

equal_claim : (a : decl.Equal) (ts rest : List Lexeme) → dl.Equal a ts rest → PartEnds rest
    → Near equal ts rest (Got a rest)
unfolding equal
equal_claim a ts rest (dl.Equal.equal {v = v} i j c l) e = near_then _ (near_expect i)
    (near_then _ (near_expect j) (near_then _ (complete_constant c)
    (near_then _ (terms_read l e (record { minus = false; value = v } ∷ [])) (near_pure _ _))))

pub equals_read : {es : List decl.Equal} {ts rest : List Lexeme} → dl.Equals es ts rest → Ends rest
    → Near (separated equal) ts rest (Got es rest)
equals_read l e = separated_read dl.Equal equal local_equal equal_claim l e

constant_no_star : {v : tree.Constant} {ts rest : List Lexeme} → g.Constant v ts rest
    → Begins (λ k. operator_of k == 13) false ts
unfolding operator_of
constant_no_star (g.Constant.number i) = by_is _ _ _ _ _ i refl
constant_no_star (g.Constant.wide i) = by_is _ _ _ _ _ i refl
constant_no_star (g.Constant.signed_number {op = op} i b j) = by_is _ _ _ _ _ i (sign_no_star op b)
constant_no_star (g.Constant.signed_wide {op = op} i b j) = by_is _ _ _ _ _ i (sign_no_star op b)
constant_no_star (g.Constant.text i) = by_is _ _ _ _ _ i refl
constant_no_star (g.Constant.truth i) = by_is _ _ _ _ _ i refl
constant_no_star (g.Constant.name i) = by_is _ _ _ _ _ i refl

-- an array, without its values
array_read : {vs : List tree.Constant} {i : decl.Item} {ts rest : List Lexeme} → dl.Array vs i ts rest
    → Near array ts rest (Got (with_values [] i) rest)
unfolding array shape operator_of
array_read (dl.Array.bounds i o a k b z) = near_then _ (near_expect i)
    (near_then _ (near_expect o) (near_then _ (choose_else (λ k. operator_of k == 13) _ (constant_no_star a)
    (near_then _ (complete_constant a)
    (near_then _ (near_expect k) (near_then _ (complete_constant b)
    (near_then _ (near_expect z) (near_pure _ _)))))) (near_pure _ _)))
array_read (dl.Array.view i o m z e b) = near_then _ (near_expect i)
    (near_then _ (near_expect o) (near_then _ (near_symbol _ m
    (near_then _ near_take (near_then _ (near_expect z)
    (near_then _ (near_expect e) (near_then _ (near_expect b) (near_pure _ _)))))) (near_pure _ _)))

-- its values put back
values_back : {vs : List tree.Constant} {i : decl.Item} {ts rest : List Lexeme} → dl.Array vs i ts rest
    → with_values vs (with_values [] i) ≡ i
values_back (dl.Array.bounds i o a k b z) = refl
values_back (dl.Array.view i o m z e b) = refl

pub shorter_array : {vs : List tree.Constant} {i : decl.Item} {ts rest : List Lexeme} → dl.Array vs i ts rest
    → length rest < length ts
shorter_array (dl.Array.bounds i o a k b z) = let m = pt.shorter_constant a in let n = pt.shorter_constant b in omega
    arith
shorter_array (dl.Array.view i o m z e b) = omega arith

-- the list that a loop over arrays ends with
abbrev listed : List decl.Item × decl.Item → List decl.Item
listed r = r.0 ++ r.1 ∷ []

record ArraysRead (is : List decl.Item) (ts rest : List Lexeme) : Type 0 where
  pub first : decl.Item
  pub middle : List Lexeme
  pub reads : Near array ts middle (Got first middle)
  pub last : List decl.Item → List decl.Item × decl.Item
  pub others : (so_far : List decl.Item)
      → Near (repeat more_arrays (so_far, first)) middle rest (Got (last so_far) rest)
  pub all : (so_far : List decl.Item) → listed (last so_far) ≡ so_far ++ is

-- a state of the loop
abbrev arrays_state : List decl.Item → decl.Item → List decl.Item × decl.Item
arrays_state so_far i = (so_far, i)

no_assign_end : {ts : List Lexeme} → Ends ts → Begins (is s.Assign) false ts
no_assign_end e = no_assign (list_ends e)

pub two_else : {A : Type 0} (test other : Symbol → Bool) (p q : Parser A) {r : Parser A} {ts m : List Lexeme}
    {y : Outcome A} → Begins test false ts → Begins other false ts → Near r ts m y
    → Near (by_symbol (λ k. if test k then p else if other k then q else r)) ts m y
two_else test other p q (with_first a) b n = near_head _ (near_else _ a (near_else _ (head_is b) n))

assign_comma : is s.Comma s.Assign ≡ false
unfolding same_symbol symbol_number
assign_comma = refl

arrays_claim : {is : List decl.Item} {ts rest : List Lexeme} → dl.Arrays is ts rest → Ends rest → ArraysRead is ts rest
unfolding more_arrays
arrays_claim {rest = rest} (dl.Arrays.one {i = i} a) e = record {
  first = with_values [] i;
  middle = rest;
  reads = array_read a;
  last = λ so_far. arrays_state so_far i;
  others = λ so_far. near_to (near_last _
      (two_else (is s.Comma) (is s.Assign) _ _ (no_comma e) (no_assign_end e) (near_pure _ _)))
      (ap (λ j. Got (arrays_state so_far j) rest) (values_back a));
  all = λ so_far. refl;
}
arrays_claim {rest = rest} (dl.Arrays.valued {vs = vs} {i = i} {k = k} {mid = mid} a j l) e = record {
  first = with_values [] i;
  middle = k ∷ mid;
  reads = array_read a;
  last = λ so_far. arrays_state so_far i;
  others = λ so_far. near_last _ (near_symbol _ j
      (near_else _ assign_comma (near_if _ (same_self s.Assign) (near_then _ near_take (near_then _ (constants_read l e)
      (near_to (near_pure _ _) (ap (λ x. Got (stopped (arrays_state so_far x)) rest) (values_back a))))))));
  all = λ so_far. refl;
}
arrays_claim {rest = rest} (dl.Arrays.more {i = i} {is = is} {k = k} {mid = mid} a j l) e = let r = arrays_claim l e in
    record {
      first = with_values [] i;
      middle = k ∷ mid;
      reads = array_read a;
      last = λ so_far. r.last (so_far ++ i ∷ []);
      others = λ so_far. near_turn {v = arrays_state (so_far ++ i ∷ []) r.first} {m = r.middle} takes_more_arrays
          (let n = r.reads.within in omega arith)
          (near_symbol _ j (near_if _ (same_self s.Comma)
          (near_then _ near_take (near_then _ r.reads (near_to (near_pure _ _)
          (ap (λ x. Got (going (arrays_state (so_far ++ x ∷ []) r.first)) r.middle) (values_back a)))))))
          (r.others (so_far ++ i ∷ []));
      all = λ so_far. r.all (so_far ++ i ∷ []) ∙ append_assoc so_far (i ∷ []) is;
    }

pub arrays_read : {is : List decl.Item} {ts rest : List Lexeme} → dl.Arrays is ts rest → Ends rest
    → Near arrays ts rest (Got is rest)
unfolding arrays
arrays_read {rest = rest} l e = let r = arrays_claim l e in near_then _ r.reads
    (near_then _ (r.others []) (near_to (near_pure _ _) (ap (λ x. Got x rest) (r.all []))))
