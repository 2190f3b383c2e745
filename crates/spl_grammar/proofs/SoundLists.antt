-- What is read as a list of names, constants, items, arrays or equations is spelled; a fault comes behind tokens that
-- open it.
use Rattle.std.proofs.Common.{ℕ, ◌≡◌, ◌==◌, ◌≤◌, Bool, true, false, List, [], ◌∷◌, ◌++◌, refl, ap, arith, append_assoc}
use Rattle.std.proofs.lemmas.Bool.Decides.{nat_tests}
use Rattle.spl_reading.specs.spl_tree.declared.symbols.Symbol.{Symbol}
use Rattle.spl_reading.specs.spl_tree.declared.symbols.Symbol.TheVariants as s
use Rattle.spl_reading.specs.spl_tree.Symbols.{Lexeme, Is}
use Rattle.spl_reading.specs.spl_tree.Operators.{is_sign}
use Rattle.spl_reading.specs.spl_tree.Expressions as g
use Rattle.spl_reading.specs.spl_tree.Parts as part
use Rattle.spl_reading.specs.spl_tree.Parts.{Part}
use Rattle.spl_reading.specs.spl_tree.OpenDeclarations as od
use Rattle.spl_reading.specs.spl_tree.OpenExpressions as op
use Rattle.spl_reading.specs.spl_tree.OpenExpressions.{Opens, here, inner, OpensAt, nesting}
use Rattle.spl_reading.specs.spl_tree.Trees as tree
use Rattle.spl_reading.specs.spl_tree.DeclarationTrees as decl
use Rattle.spl_reading.specs.spl_tree.DeclarationTrees.{Placed}
use Rattle.spl_reading.specs.spl_tree.Declarations as dl
use Rattle.spl_reading.specs.spl_tree.Declarations.{Separated}
use Rattle.spl_reading.specs.Readers.{Parser, ◌>>=◌, pure, take, repeat}
use Rattle.spl_reading.specs.ReadExpressions.{is, operator_of, constant}
use Rattle.spl_reading.specs.ReadDeclarations.{more_parts, separated, name, names, item, shape, array, with_values, more_arrays, arrays, more_terms, equal}
use Rattle.spl_grammar.specs.Answers.{Explains}
use Rattle.spl_grammar.proofs.ExplainReaders.{at_here, explain_then, explain_expect, explain_next, explain_pure, explain_symbol, explain_if, explain_along, reached, along, recast}
use Rattle.spl_grammar.proofs.ExplainReaders as er
use Rattle.spl_grammar.proofs.ExplainLoops.{TurnLeaves, goes_on, ends, repeat_explained}
use Rattle.spl_grammar.proofs.SoundOperands.{constant_explained, constant_at, is_it}
use Rattle.spl_grammar.proofs.LevelFacts.{sign_is}
use Rattle.spl_grammar.proofs.LocalReaders.{IsLocal}
use Rattle.spl_grammar.proofs.LocalExpressions.{local_constant}
use Rattle.spl_grammar.proofs.LocalDeclarations.{takes_more_parts, takes_more_arrays, takes_more_terms, local_name, local_item, local_equal}

-- one step in a declaration, and the chain that ends there
abbrev pub ahead : {p q : Part} {d : ℕ} {ts mid : List Lexeme} → od.DeclarationStep p ts q mid → OpensAt p d 0 ts mid
ahead step = er.stepped (op.of_declaration step) (at_here _ _ _ _)

-- Parts between commas.

-- the parts read so far, each with its comma: the list is what they and the others are
record PartsBefore {A : Type 0} (P : A → List Lexeme → List Lexeme → Type 0) (list : Part) (xs : List A)
    (ts mid : List Lexeme) : Type 0 where
  pub gives : (more : List A) (rest : List Lexeme) → Separated P more mid rest → Separated P (xs ++ more) ts rest
  pub opens : (d : ℕ) → Opens list d 0 ts list d 0 mid

-- the parts read so far, the last of them without its comma
record PartsSoFar {A : Type 0} (P : A → List Lexeme → List Lexeme → Type 0) (list : Part) (ts : List Lexeme)
    (xs : List A) (now : List Lexeme) : Type 0 where
  pub before : List A
  pub last : A
  pub middle : List Lexeme
  pub all : xs ≡ before ++ last ∷ []
  pub front : PartsBefore P list before ts middle
  pub spelled : P last middle now

-- together they are a list
parts_are : {A : Type 0} {P : A → List Lexeme → List Lexeme → Type 0} {list : Part} {xs : List A}
    {ts now : List Lexeme} → PartsSoFar P list ts xs now → Separated P xs ts now
parts_are {now = now} x = rw x.all (x.front.gives (x.last ∷ []) now (dl.Separated.one x.spelled))

-- `reader` reads a part of the list
module _ {A : Type 0} (P : A → List Lexeme → List Lexeme → Type 0) (list : Part) (reader : Parser A)
    (local : IsLocal reader) (most d : ℕ) (l : nesting d 0 ≤ most)
    (claim : (ts : List Lexeme) → Explains most (λ a rest. P a ts rest) list d 0 ts (reader ts))
    (comma : (a : A) (ts mid : List Lexeme) → P a ts mid → od.DeclarationStep list ts part.mark mid)
    (next : (a : A) (k : Lexeme) (ts mid : List Lexeme) → P a ts (k ∷ mid) → Is s.Comma k
    → od.DeclarationStep list ts list mid) where
  -- behind its comma the last part stands with the others
  comma_behind : {xs : List A} {ts us : List Lexeme} {t : Lexeme} → PartsSoFar P list ts xs (t ∷ us) → Is s.Comma t
      → PartsBefore P list xs ts us
  comma_behind x i = record {
    gives = λ more rest a. rw (x.all, append_assoc x.before (x.last ∷ []) more)
        (x.front.gives (x.last ∷ more) rest (dl.Separated.more x.spelled i a));
    opens = λ d. along (x.front.opens d) (inner (op.of_declaration (next _ _ _ _ x.spelled i)) here);
  }

  -- behind a comma
  further_part : (xs : List A) (ts : List Lexeme) (t : Lexeme) (us : List Lexeme) → PartsSoFar P list ts xs (t ∷ us)
      → Is s.Comma t
      → Explains most (TurnLeaves (PartsSoFar P list ts) (λ ys rest. Separated P ys ts rest)) list d 0 ts
      ((take >>= (λ _. reader >>= (λ x. pure (true, xs ++ x ∷ [])))) (t ∷ us))
  further_part xs ts t us x i = er.taken_explained _
      (explain_along reader _ ((comma_behind x i).opens d) (claim us)
      (λ y rest v. explain_pure _ rest (goes_on (record {
        before = xs;
        last = y;
        middle = us;
        all = refl;
        front = comma_behind x i;
        spelled = v;
      }))))

  -- one turn of the loop: a further part, or the end of the list
  part_turn : (ts : List Lexeme) (xs : List A) (now : List Lexeme) → PartsSoFar P list ts xs now
      → Explains most (TurnLeaves (PartsSoFar P list ts) (λ ys rest. Separated P ys ts rest)) list d 0 ts
      (more_parts reader xs now)
  unfolding more_parts
  part_turn ts xs now x = explain_symbol _ now (reached (x.front.opens d) (ahead (comma _ _ _ x.spelled))) l
      (λ t us q. explain_if (is s.Comma t.symbol) _ _ (t ∷ us)
      (λ e. further_part xs ts t us (rw q at x) (is_it s.Comma t e))
      (λ e. explain_pure _ (t ∷ us) (ends (parts_are (rw q at x)))))

  -- part { "," part }
  pub separated_explained : (ts : List Lexeme)
      → Explains most (λ xs rest. Separated P xs ts rest) list d 0 ts (separated reader ts)
  unfolding separated
  separated_explained ts = explain_next reader _ ts (claim ts)
      (λ x rest v. repeat_explained most (more_parts reader) (takes_more_parts reader local) list d 0 ts
      (PartsSoFar P list ts) (λ ys rest. Separated P ys ts rest) (part_turn ts) (x ∷ []) rest (record {
        before = [];
        last = x;
        middle = ts;
        all = refl;
        front = record { gives = λ more rest a. a; opens = λ d. here };
        spelled = v;
      }))

-- names
pub names_explained : {most : ℕ} (d : ℕ) (ts : List Lexeme) → nesting d 0 ≤ most
    → Explains most (λ ns rest. dl.Names ns ts rest) part.names d 0 ts (names ts)
unfolding names name
names_explained {most = most} d ts l = separated_explained dl.Name part.names name local_name most d l
    (λ us. explain_expect s.Name _ us (at_here _ _ _ _) l
    (λ t rest q i. rw q (explain_pure _ rest (dl.Name.name i)))) (λ a us mid p. od.names_comma p)
    (λ a k us mid p i. od.names_next p i) ts

-- constants
constants_explained : {most : ℕ} (d : ℕ) (ts : List Lexeme) → nesting d 0 ≤ most
    → Explains most (λ vs rest. dl.Constants vs ts rest) part.constants d 0 ts (separated constant ts)
constants_explained {most = most} d ts l = separated_explained g.Constant part.constants constant local_constant most d
    l
    (λ us. recast (op.of_declaration od.constants_part) (constant us) (constant_explained d 0 us l) (λ a rest v. v))
    (λ a us mid p. od.constants_comma p) (λ a k us mid p i. od.constants_next p i) ts

-- name [":=" const]
item_explained : {most : ℕ} (d : ℕ) (ts : List Lexeme) → nesting d 0 ≤ most
    → Explains most (λ i rest. dl.Item i ts rest) part.item d 0 ts (item ts)
unfolding item
item_explained d ts l = explain_expect s.Name _ ts (at_here _ _ _ _) l (λ t after_name q i. rw q (
    explain_symbol _ after_name (ahead (od.item_assign i)) l (λ k rest r. rw r (
    explain_if (is s.Assign k.symbol) _ _ (k ∷ rest)
    (λ e. er.taken_explained _ (explain_then constant _ (op.of_declaration (od.item_value i (is_it s.Assign k e)))
    (constant_explained d 0 rest l)
    (λ v more x. explain_pure _ more (dl.Item.valued i (is_it s.Assign k e) x))))
    (λ e. explain_pure _ (k ∷ rest) (dl.Item.plain i))))))

-- items
pub items_explained : {most : ℕ} (d : ℕ) (ts : List Lexeme) → nesting d 0 ≤ most
    → Explains most (λ is rest. dl.Items is ts rest) part.items d 0 ts (separated item ts)
items_explained {most = most} d ts l = separated_explained dl.Item part.items item local_item most d l
    (λ us. recast (op.of_declaration od.items_part) (item us) (item_explained d us l) (λ a rest v. v))
    (λ a us mid p. od.items_comma p) (λ a k us mid p i. od.items_next p i) ts

-- Arrays.

-- a star
star_is : (k : Symbol) → (operator_of k == 13) ≡ true → k ≡ s.Operator 13
unfolding operator_of
star_is (s.Operator o) e = ap s.Operator (grind (arith, nat_tests, e))
star_is k e = cc

-- the bounds of an array, or the base of a view
shape_explained : {most : ℕ} (d : ℕ) (t o : Lexeme) (us : List Lexeme) → nesting d 0 ≤ most → Is s.Name t → Is s.Open o
    → Explains most
    (λ x rest. dl.Array [] (record { name = t.letters; at = t.at; shape = x; first = [] }) (t ∷ o ∷ us) rest)
    part.array d 0 (t ∷ o ∷ us) (shape us)
unfolding shape
shape_explained d t o us l i j = explain_symbol _ us (ahead (od.array_low i j)) l (λ m rest q. rw q (
    explain_if (operator_of m.symbol == 13) _ _ (m ∷ rest)
    (λ e. let k = star_is m.symbol e in er.taken_explained _ (
    explain_expect s.Close _ rest (ahead (od.view_close i j k)) l (λ z after_close q2 i2. rw q2 (
    explain_expect (s.Operator 5) _ after_close (ahead (od.view_equal i j k i2)) l (λ e after_equal q3 i3. rw q3 (
    explain_expect s.Name _ after_equal (ahead (od.view_base i j k i2 i3)) l (λ b more q4 i4. rw q4 (
    explain_pure _ more (dl.Array.view i j k i2 i3 i4)))))))))
    (λ e. explain_then constant _ (op.of_declaration (od.array_low i j)) (constant_explained d 0 (m ∷ rest) l)
    (λ a after_low v.
    explain_expect s.Colon _ after_low (ahead (od.array_colon i j v)) l (λ k after_colon q2 i2.
    let v1 = constant_at q2 v in
    explain_then constant _ (op.of_declaration (od.array_high i j v1 i2)) (constant_explained d 0 after_colon l)
    (λ b after_high x.
    explain_expect s.Close _ after_high (ahead (od.array_close i j v1 i2 x)) l (λ z more q3 i3.
    explain_pure _ more (dl.Array.bounds i j v1 i2 (constant_at q3 x) i3))))))))

-- name "(" const ":" const ")" | name "(" "*" ")" "=" name
array_explained : {most : ℕ} (d : ℕ) (ts : List Lexeme) → nesting d 0 ≤ most
    → Explains most (λ i rest. dl.Array [] i ts rest) part.array d 0 ts (array ts)
unfolding array
array_explained d ts l = explain_expect s.Name _ ts (at_here _ _ _ _) l (λ t after_name q i. rw q (
    explain_expect s.Open _ after_name (ahead (od.array_open i)) l (λ o rest r j. rw r (
    explain_next shape _ rest (shape_explained d t o rest l i j) (λ x more v. explain_pure _ more v)))))

-- an array that is given values
with_values_is : {i : decl.Item} {ts rest : List Lexeme} (vs : List tree.Constant) → dl.Array [] i ts rest
    → dl.Array vs (with_values vs i) ts rest
with_values_is vs (dl.Array.bounds i o a k b z) = dl.Array.bounds i o a k b z
with_values_is vs (dl.Array.view i o m z e b) = dl.Array.view i o m z e b

-- the arrays read so far, the last of them without its comma
record ArraysSoFar (ts : List Lexeme) (r : List decl.Item × decl.Item) (now : List Lexeme) : Type 0 where
  pub middle : List Lexeme
  pub gives : (more : List decl.Item) (rest : List Lexeme) → dl.Arrays more middle rest
      → dl.Arrays (r.0 ++ more) ts rest
  pub opens : (d : ℕ) → Opens part.arrays d 0 ts part.arrays d 0 middle
  pub spelled : dl.Array [] r.1 middle now

-- the list that a loop over arrays ends with
abbrev arrays_of : List decl.Item × decl.Item → List decl.Item
arrays_of r = r.0 ++ r.1 ∷ []

module _ (most d : ℕ) (l : nesting d 0 ≤ most) (ts : List Lexeme) where
  -- what a turn over arrays leaves
  abbrev ArrayTurn : Bool × (List decl.Item × decl.Item) → List Lexeme → Type 0
  ArrayTurn = TurnLeaves (ArraysSoFar ts) (λ r rest. dl.Arrays (arrays_of r) ts rest)

  -- behind a comma
  further_array : (r : List decl.Item × decl.Item) (t : Lexeme) (us : List Lexeme) → ArraysSoFar ts r (t ∷ us)
      → Is s.Comma t
      → Explains most ArrayTurn part.arrays d 0 ts
      ((take >>= (λ _. array >>= (λ i. pure (true, (r.0 ++ r.1 ∷ [], i))))) (t ∷ us))
  further_array r t us x i =
      let opens : (d : ℕ) → Opens part.arrays d 0 ts part.arrays d 0 us =
      λ d. along (x.opens d) (inner (op.of_declaration (od.arrays_next x.spelled i)) here) in
      er.taken_explained _ (explain_along array _ (along (opens d) (inner (op.of_declaration od.arrays_part) here))
      (array_explained d us l) (λ y rest v. explain_pure _ rest (goes_on (record {
        middle = us;
        gives = λ more end a. rw (append_assoc r.0 (r.1 ∷ []) more)
            (x.gives (r.1 ∷ more) end (dl.Arrays.more x.spelled i a));
        opens = opens;
        spelled = v;
      }))))

  -- behind ":=", which ends the list
  values_behind : (r : List decl.Item × decl.Item) (t : Lexeme) (us : List Lexeme) → ArraysSoFar ts r (t ∷ us)
      → Is s.Assign t
      → Explains most ArrayTurn part.arrays d 0 ts
      ((take >>= (λ _. separated constant >>= (λ vs. pure (false, (r.0, with_values vs r.1))))) (t ∷ us))
  values_behind r t us x i = er.taken_explained _ (explain_along (separated constant) _
      (along (x.opens d) (inner (op.of_declaration (od.arrays_values x.spelled i)) here)) (constants_explained d us l)
      (λ vs rest v. explain_pure _ rest (ends
      (x.gives (with_values vs r.1 ∷ []) rest (dl.Arrays.valued (with_values_is vs x.spelled) i v)))))

  -- one turn of the loop: a further array, the values of the last, or the end of the list
  array_turn : (r : List decl.Item × decl.Item) (now : List Lexeme) → ArraysSoFar ts r now
      → Explains most ArrayTurn part.arrays d 0 ts (more_arrays r now)
  unfolding more_arrays
  array_turn r now x = explain_symbol _ now (reached (x.opens d) (ahead (od.arrays_mark x.spelled))) l
      (λ t us q. explain_if (is s.Comma t.symbol) _ _ (t ∷ us)
      (λ e. further_array r t us (rw q at x) (is_it s.Comma t e))
      (λ _. explain_if (is s.Assign t.symbol) _ _ (t ∷ us)
      (λ e. values_behind r t us (rw q at x) (is_it s.Assign t e))
      (λ _. explain_pure _ (t ∷ us) (ends (x.gives (r.1 ∷ []) (t ∷ us) (dl.Arrays.one (rw q at x.spelled)))))))

  -- array { "," array } [":=" const { "," const }]
  pub arrays_explained : Explains most (λ is rest. dl.Arrays is ts rest) part.arrays d 0 ts (arrays ts)
  unfolding arrays
  arrays_explained = explain_then array _ (op.of_declaration od.arrays_part) (array_explained d ts l) (λ i rest v.
      explain_next (repeat more_arrays ([], i)) _ rest
      (repeat_explained most more_arrays takes_more_arrays part.arrays d 0 ts (ArraysSoFar ts)
      (λ r end. dl.Arrays (arrays_of r) ts end) array_turn ([], i) rest (record {
        middle = ts;
        gives = λ more end a. a;
        opens = λ d. here;
        spelled = v;
      })) (λ r more w. explain_pure (arrays_of r) more w))

-- Equations.

-- two sums of constants, one behind the other
terms_then : {us vs : List decl.Term} {ts mid rest : List Lexeme} → dl.Terms us ts mid → dl.Terms vs mid rest
    → dl.Terms (us ++ vs) ts rest
terms_then dl.Terms.none b = b
terms_then (dl.Terms.more i e v a) b = dl.Terms.more i e v (terms_then a b)

-- the constant behind the sign of a term
term_is : {vs : List decl.Term} {op : ℕ} {v : tree.Constant} {p : Lexeme} {ts us rest : List Lexeme}
    → dl.Terms vs ts (p ∷ us) → Is (s.Operator op) p → is_sign op ≡ true → g.Constant v us rest
    → dl.Terms (vs ++ record { minus = op == 12; value = v } ∷ []) ts rest
term_is a i e v = terms_then a (dl.Terms.more i e v dl.Terms.none)

-- the terms of an equation read so far, behind its first constant
record TermsSoFar (first : decl.Term) (ts : List Lexeme) (xs : List decl.Term) (now : List Lexeme) : Type 0 where
  pub others : List decl.Term
  pub all : xs ≡ first ∷ others
  pub spelled : dl.Terms others ts now

-- the first term of an equation
abbrev first_term : tree.Constant → decl.Term
first_term v = record { minus = false; value = v }

-- an equation with these terms
abbrev equation_with : Lexeme → List decl.Term → decl.Equal
equation_with t vs = record { name = t.letters; at = t.at; terms = vs }

-- The terms of an equation, whose name and first constant have been read.
module _ (most d : ℕ) (l : nesting d 0 ≤ most) (v : tree.Constant) (t e : Lexeme) (us mid : List Lexeme)
    (i : Is s.Name t) (j : Is (s.Operator 5) e) (c : g.Constant v us mid) where
  -- what a turn leaves
  abbrev TermTurn : Bool × List decl.Term → List Lexeme → Type 0
  TermTurn = TurnLeaves (TermsSoFar (first_term v) mid) (λ vs rest. dl.Equal (equation_with t vs) (t ∷ e ∷ us) rest)

  -- the terms so far are those of an equation
  equation_of : (vs : List decl.Term) (rest : List Lexeme) → TermsSoFar (first_term v) mid vs rest
      → dl.Equal (equation_with t vs) (t ∷ e ∷ us) rest
  equation_of vs rest x = rw x.all (dl.Equal.equal i j c x.spelled)

  -- behind a sign
  further_term : (xs : List decl.Term) (p : Lexeme) (rest : List Lexeme) → TermsSoFar (first_term v) mid xs (p ∷ rest)
      → is_sign (operator_of p.symbol) ≡ true
      → Explains most TermTurn part.equal d 0 (t ∷ e ∷ us)
      ((take >>= (λ p. constant >>= (λ w. pure
      (true, xs ++ record { minus = operator_of p.symbol == 12; value = w } ∷ [])))) (p ∷ rest))
  further_term xs p rest x k = let o = sign_is p.symbol k in
      er.taken_explained _ (explain_then constant _ (op.of_declaration (od.equal_term i j c x.spelled o k))
      (constant_explained d 0 rest l) (λ w more y. explain_pure _ more (goes_on (record {
        others = x.others ++ record { minus = operator_of p.symbol == 12; value = w } ∷ [];
        all = ap (λ vs. vs ++ record { minus = operator_of p.symbol == 12; value = w } ∷ []) x.all;
        spelled = term_is x.spelled o k y;
      }))))

  -- one turn of the loop: a further term, or the end of the equation
  term_turn : (xs : List decl.Term) (now : List Lexeme) → TermsSoFar (first_term v) mid xs now
      → Explains most TermTurn part.equal d 0 (t ∷ e ∷ us) (more_terms xs now)
  unfolding more_terms
  term_turn xs now x = explain_symbol _ now (ahead (od.equal_sign i j c x.spelled)) l
      (λ p rest q. explain_if (is_sign (operator_of p.symbol)) _ _ (p ∷ rest)
      (λ k. further_term xs p rest (rw q at x) k)
      (λ k. explain_pure _ (p ∷ rest) (ends (equation_of xs (p ∷ rest) (rw q at x)))))

  -- { ("+"|"-") const }
  terms_explained : Explains most (λ vs rest. dl.Equal (equation_with t vs) (t ∷ e ∷ us) rest) part.equal d 0
      (t ∷ e ∷ us) (repeat more_terms (first_term v ∷ []) mid)
  terms_explained = repeat_explained most more_terms takes_more_terms part.equal d 0 (t ∷ e ∷ us)
      (TermsSoFar (first_term v) mid) (λ vs rest. dl.Equal (equation_with t vs) (t ∷ e ∷ us) rest) term_turn
      (first_term v ∷ []) mid (record { others = []; all = refl; spelled = dl.Terms.none })

-- name "=" const { ("+"|"-") const }
equal_explained : {most : ℕ} (d : ℕ) (ts : List Lexeme) → nesting d 0 ≤ most
    → Explains most (λ e rest. dl.Equal e ts rest) part.equal d 0 ts (equal ts)
unfolding equal
equal_explained {most = most} d ts l = explain_expect s.Name _ ts (at_here _ _ _ _) l (λ t after_name q i. rw q (
    explain_expect (s.Operator 5) _ after_name (ahead (od.equal_mark i)) l (λ e rest r j. rw r (
    explain_then constant _ (op.of_declaration (od.equal_value i j)) (constant_explained d 0 rest l) (λ v more c.
    explain_next _ _ more (terms_explained most d l v t e rest more i j c) (λ vs end w. explain_pure _ end w))))))

-- equations
pub equals_explained : {most : ℕ} (d : ℕ) (ts : List Lexeme) → nesting d 0 ≤ most
    → Explains most (λ es rest. dl.Equals es ts rest) part.equals d 0 ts (separated equal ts)
equals_explained {most = most} d ts l = separated_explained dl.Equal part.equals equal local_equal most d l
    (λ us. recast (op.of_declaration od.equals_part) (equal us) (equal_explained d us l) (λ a rest v. v))
    (λ a us mid p. od.equals_comma p) (λ a k us mid p i. od.equals_next p i) ts
