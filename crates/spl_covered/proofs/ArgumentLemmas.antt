-- Arguments, over their values and references as parts: a value as its parameter holds it, and the address of what a name leads to.
use Rattle.std.proofs.Common.{◌≡◌, ℕ, ◌+◌, ◌-◌, ◌*◌, ◌%◌, ◌≤◌, Bool, true, false, List, [], ◌∷◌, ◌++◌, length, refl, sym, ap, subst, ◌∙◌, arith}
use Rattle.std.specs.Prelude.{Option, Some, None, if◌then◌else◌}
use Rattle.std.proofs.lemmas.Bool.{false≢true}
use Rattle.spl_byte_tests.specs.hp_word.Bits.{shifted}
use Rattle.spl_byte_tests.specs.hp_word.declared.shifts.Shift.TheVariants.{Lsl}
use Rattle.spl_byte_tests.proofs.hp_word_proofs.ShiftLemmas.{shifted-Lsl}
use Rattle.spl_byte_tests.specs.hp_session.State.{Machine}
use Rattle.spl_byte_tests.specs.spl_tree.declared.expressions.Kind.{Kind}
use Rattle.spl_byte_tests.specs.spl_tree.declared.expressions.Kind.TheVariants as kind
use Rattle.spl_byte_tests.specs.spl_meaning.Kinds.{of, width}
use Rattle.spl_byte_tests.specs.spl_meaning.Operations.{transferred, passed, shift_done}
use Rattle.spl_byte_tests.specs.spl_meaning.Names.{Profile}
use Rattle.spl_byte_tests.specs.spl_meaning.Pending.{value_words, formals_words, result_words}
use Rattle.spl_byte_tests.specs.spl_meaning.References.{Setting}
use Rattle.spl_byte_tests.specs.spl_meaning.States.{Data, State, Outcome, done, leaves, spent, ends, strays, then_go}
use Rattle.spl_byte_tests.specs.spl_code.Code.{as_value}
use Rattle.spl_byte_tests.specs.spl_code.Operators.{as_parameter, shift_operator}
use Rattle.spl_byte_tests.specs.spl_code.Parts.{Part, pieces, nothing, ◌⨟◌}
use Rattle.spl_byte_tests.specs.spl_follow.Spots.{Spot, pos, Ground}
use Rattle.spl_byte_tests.specs.spl_follow.Matching.{IsValue}
use Rattle.spl_byte_tests.specs.spl_follow.Following.{Rate, Tally, tally_with, Follows, NoExit}
use Rattle.spl_byte_tests.specs.spl_follow.Simulating.{Surroundings, Simulates}
use Rattle.spl_byte_tests.specs.spl_values.Reached.{IsWhole}
use Rattle.spl_byte_tests.proofs.spl_values_proofs.WholeLemmas.{whole_last, whole_then, whole_behind, then_same, same_simulates, last_simulates}
use Rattle.spl_whom.proofs.spl_intrinsics_proofs.RoomLemmas.{joined}
use Rattle.spl_whom.proofs.spl_operators_proofs.SingleLemmas.{shifts}
use Rattle.spl_whom.specs.spl_links.Laws.{HasCode, none, some, ArgumentsCode}
use Rattle.spl_covered.specs.Covered.{is_passed}
use Rattle.std.proofs.lemmas.List.{append-nil}

-- what comes behind a location that comes behind an index
pub behind_both : {A B C : Type 0} (o : Outcome A) (f : A → State → Outcome B) (g : B → State → Outcome C)
    → then_go (then_go o f) g ≡ then_go o (λ a s. then_go (f a s) g)
behind_both (done a s) f g = refl
behind_both (leaves x s) f g = refl
behind_both (spent s) f g = refl
behind_both (ends e s) f g = refl
behind_both (strays s) f g = refl

-- what is made of an argument and of no others is the argument
one_alone : (o : Outcome (List ℕ)) → then_go o (λ ws s. then_go (done [] s) (λ vs t. done (ws ++ vs) t)) ≡ o
one_alone (done ws s) = ap (λ (vs : List ℕ). done vs s) (append-nil ws)
one_alone (leaves x s) = refl
one_alone (spent s) = refl
one_alone (ends e s) = refl
one_alone (strays s) = refl

-- ---- values

-- the kinds whose values are passed as they are
data IsAsItIs : Kind → Type 0 where
  as_integer : IsAsItIs kind.Integer
  as_logical : IsAsItIs kind.Logical
  as_double : IsAsItIs kind.Double

-- so many words are passed
same_passed : (t : Kind) (vs : List ℕ) (s : State) → IsAsItIs t → length vs ≡ width t → passed (Some t) vs s ≡ done vs s
same_passed kind.Integer (v ∷ []) s as_integer wide = refl
same_passed kind.Logical (v ∷ []) s as_logical wide = refl
same_passed kind.Double (h ∷ l ∷ []) s as_double wide = refl
same_passed kind.Byte vs s x wide = elim x [ ]
same_passed kind.Integer [] s as_integer wide = absurd (omega (arith, wide))
same_passed kind.Integer (v ∷ x ∷ vs) s as_integer wide = absurd (omega (arith, wide))
same_passed kind.Logical [] s as_logical wide = absurd (omega (arith, wide))
same_passed kind.Logical (v ∷ x ∷ vs) s as_logical wide = absurd (omega (arith, wide))
same_passed kind.Double [] s as_double wide = absurd (omega (arith, wide))
same_passed kind.Double (h ∷ []) s as_double wide = absurd (omega (arith, wide))
same_passed kind.Double (h ∷ l ∷ x ∷ vs) s as_double wide = absurd (omega (arith, wide))

words_passed : (g : Ground) (w : Rate) (c lag e : ℕ) (u : Tally) (st : Setting) (q : Spot) (k : ℕ) (d : Data) (m m0 : Machine) (t : Kind)
    (o : Outcome (List ℕ)) → IsAsItIs t → Follows g w c lag e u m (IsValue st q (width t) k d m0) NoExit o
    → Follows g w c lag e u m (IsValue st q (width t) k d m0) NoExit (then_go o (λ vs s. passed (Some t) vs s))
words_passed g w c lag e u st q k d m m0 t (done vs s) is f =
    subst (λ (o : Outcome (List ℕ)). Follows g w c lag e u m (IsValue st q (width t) k d m0) NoExit o) (sym (same_passed t vs s is f.2.wide)) f
words_passed g w c lag e u st q k d m m0 t (leaves x s) is f = f
words_passed g w c lag e u st q k d m m0 t (spent s) is f = f
words_passed g w c lag e u st q k d m m0 t (ends x s) is f = f
words_passed g w c lag e u st q k d m m0 t (strays s) is f = f

words_give : (z : Surroundings) (d k need : ℕ) (t : Kind) (a : Part) (f : State → Outcome (List ℕ)) → IsAsItIs t
    → Simulates z d as_value (width t) k need a f
    → Simulates z d as_value (width t) k need (a ⨟ pieces []) (λ s. then_go (f s) (λ vs u. passed (Some t) vs u))
words_give z d k need t a f is sim =
    last_simulates z d as_value (width t) k need a (λ s. then_go (f s) (λ vs u. passed (Some t) vs u))
    (record {
      does = λ i ws p q s l m stands front ready.
          words_passed z.ground z.rate (pos q - pos p.at) 1 z.rate.reach (tally_with l s) z.setting q k s.now m m t (f s) is
          (sim.does i ws p q s l m stands front ready);
    })

-- a BYTE goes to the left half of its word
left_half : (w : ℕ) → shifted Lsl w 8 ≡ 256 * (w % 256)
left_half w = shifted-Lsl w 8 (omega arith) ∙ omega arith

byte_passed : (vs : List ℕ) (s : State) → passed (Some kind.Byte) vs s ≡ shift_done 2 8 vs s
byte_passed [] s = refl
byte_passed (w ∷ []) s = ap (λ (v : ℕ). done (v ∷ []) s) (sym (left_half w))
byte_passed (w ∷ v ∷ vs) s = refl

-- a value of a kind, as its parameter holds it
pub passed_whole : (t : Kind) (a : Part) → IsWhole a → IsWhole (a ⨟ pieces (as_parameter (Some t)))
passed_whole kind.Integer a whole = whole_last a whole
passed_whole kind.Logical a whole = whole_last a whole
passed_whole kind.Double a whole = whole_last a whole
passed_whole kind.Byte a whole = whole_behind a (as_parameter (Some kind.Byte)) whole refl

pub passed_gives : (z : Surroundings) (d k need : ℕ) (t : Kind) (a : Part) (f : State → Outcome (List ℕ)) → IsWhole a
    → Simulates z d as_value (width t) k need a f
    → Simulates z d as_value (width t) k need (a ⨟ pieces (as_parameter (Some t))) (λ s. then_go (f s) (λ vs u. passed (Some t) vs u))
passed_gives z d k need kind.Integer a f whole sim = words_give z d k need kind.Integer a f as_integer sim
passed_gives z d k need kind.Logical a f whole sim = words_give z d k need kind.Logical a f as_logical sim
passed_gives z d k need kind.Double a f whole sim = words_give z d k need kind.Double a f as_double sim
passed_gives z d k need kind.Byte a f whole sim =
    same_simulates z d as_value 1 k need (a ⨟ pieces (as_parameter (Some kind.Byte))) (a ⨟ pieces (shift_operator 2 8))
    (λ s. then_go (f s) (λ vs u. passed (Some kind.Byte) vs u)) (λ s. then_go (f s) (λ vs u. shift_done 2 8 vs u)) refl
    (λ s. then_same (f s) (λ vs u. passed (Some kind.Byte) vs u) (λ vs u. shift_done 2 8 vs u) (λ vs u. byte_passed vs u))
    (shifts z d k need 2 8 a f (omega arith) (omega arith) whole sim)

-- a DOUBLE that is taken as one is passed as one
same_double : (vs : List ℕ) (s : State) → transferred kind.Double (of kind.Double) vs s ≡ passed (Some kind.Double) vs s
same_double [] s = refl
same_double (h ∷ []) s = refl
same_double (h ∷ l ∷ []) s = refl
same_double (h ∷ l ∷ x ∷ vs) s = refl

pub doubled_gives : (z : Surroundings) (d k need : ℕ) (a : Part) (f : State → Outcome (List ℕ)) → Simulates z d as_value 2 k need a f
    → Simulates z d as_value 2 k need (a ⨟ pieces []) (λ s. then_go (f s) (λ vs u. transferred kind.Double (of kind.Double) vs u))
doubled_gives z d k need a f sim =
    same_simulates z d as_value 2 k need (a ⨟ pieces []) (a ⨟ pieces []) (λ s. then_go (f s) (λ vs u. transferred kind.Double (of kind.Double) vs u))
    (λ s. then_go (f s) (λ vs u. passed (Some kind.Double) vs u)) refl
    (λ s. then_same (f s) (λ vs u. transferred kind.Double (of kind.Double) vs u) (λ vs u. passed (Some kind.Double) vs u) (λ vs u. same_double vs u))
    (words_give z d k need kind.Double a f as_double sim)

-- ---- an argument

-- by value or by reference, by the laws of each
pub argument_whole : (given : Bool) (t : Option Kind) (word double reference' : Bool) (v r : Part) → is_passed given t word double reference' ≡ true
    → (word ≡ true → IsWhole v) → (double ≡ true → IsWhole v) → (reference' ≡ true → IsWhole r)
    → IsWhole (if given then v ⨟ pieces (as_parameter t) else r)
argument_whole true (Some kind.Integer) word double ref v r h one two other = passed_whole kind.Integer v (one h)
argument_whole true (Some kind.Logical) word double ref v r h one two other = passed_whole kind.Logical v (one h)
argument_whole true (Some kind.Byte) word double ref v r h one two other = passed_whole kind.Byte v (one h)
argument_whole true (Some kind.Double) word double ref v r h one two other = passed_whole kind.Double v (two h)
argument_whole true None word double ref v r h one two other = absurd (false≢true h)
argument_whole false t word double ref v r h one two other = other h

pub argument_gives : (z : Surroundings) (d k need : ℕ) (given : Bool) (t : Option Kind) (word double reference' : Bool) (v r : Part)
    (value address : State → Outcome (List ℕ)) → is_passed given t word double reference' ≡ true
    → (word ≡ true → IsWhole v × Simulates z d as_value 1 k need v value) → (double ≡ true → IsWhole v × Simulates z d as_value 2 k need v value)
    → (reference' ≡ true → Simulates z d as_value 1 k need r address)
    → Simulates z d as_value (value_words given t) k need (if given then v ⨟ pieces (as_parameter t) else r)
    (λ s. if given then then_go (value s) (λ vs u. passed t vs u) else address s)
argument_gives z d k need true (Some kind.Integer) word double ref v r f g h one two other = passed_gives z d k need kind.Integer v f (one h).0 (one h).1
argument_gives z d k need true (Some kind.Logical) word double ref v r f g h one two other = passed_gives z d k need kind.Logical v f (one h).0 (one h).1
argument_gives z d k need true (Some kind.Byte) word double ref v r f g h one two other = passed_gives z d k need kind.Byte v f (one h).0 (one h).1
argument_gives z d k need true (Some kind.Double) word double ref v r f g h one two other = passed_gives z d k need kind.Double v f (two h).0 (two h).1
argument_gives z d k need true None word double ref v r f g h one two other = absurd (false≢true h)
argument_gives z d k need false t word double ref v r f g h one two other = other h

-- ---- lists

-- an argument before others, or alone
pub behind_argument : (a b : Part) → IsWhole a → HasCode b → IsWhole (a ⨟ b)
behind_argument a b whole (some others) = whole_then a b whole others
behind_argument a b whole none = whole_last a whole

-- arguments of so many words: none, or whole code that gives them
pub data Given (z : Surroundings) (d n k need : ℕ) : Part → (State → Outcome (List ℕ)) → Type 0 where
  nothing_given : {words : State → Outcome (List ℕ)} → n ≡ 0 → ((s : State) → words s ≡ done [] s) → Given z d n k need nothing words
  words_given : {a : Part} {words : State → Outcome (List ℕ)} → IsWhole a → Simulates z d as_value n k need a words → Given z d n k need a words

pub first_gives : (z : Surroundings) (d n o k need more : ℕ) (a b : Part) (first others : State → Outcome (List ℕ)) → IsWhole a
    → Simulates z d as_value n k need a first → Given z d o (k + n) more b others → n + more ≤ need
    → Simulates z d as_value (n + o) k need (a ⨟ b) (λ s. then_go (first s) (λ ws t. then_go (others t) (λ vs u. done (ws ++ vs) u)))
first_gives z d n o k need more a b first others whole sim (words_given wb sb) fits = joined z d n o k need more a b first others whole wb sim sb fits
first_gives z d n o k need more a b first others whole sim (nothing_given zero is) fits =
    let same : n ≡ n + o = omega (arith, zero) in
    subst (λ (j : ℕ). Simulates z d as_value j k need (a ⨟ nothing) (λ s. then_go (first s) (λ ws t. then_go (others t) (λ vs u. done (ws ++ vs) u)))) same
    (same_simulates z d as_value n k need (a ⨟ nothing) (a ⨟ nothing) (λ s. then_go (first s) (λ ws t. then_go (others t) (λ vs u. done (ws ++ vs) u))) first refl
    (λ s. then_same (first s) (λ ws t. then_go (others t) (λ vs u. done (ws ++ vs) u)) (λ ws t. then_go (done [] t) (λ vs u. done (ws ++ vs) u))
    (λ ws t. ap (λ (o : Outcome (List ℕ)). then_go o (λ vs u. done (ws ++ vs) u)) (is t)) ∙ one_alone (first s))
    (last_simulates z d as_value n k need a first sim))

-- those of a procedure
pub given_code : (p : Profile) (z : Surroundings) (d k more : ℕ) (a : Part) (words : State → Outcome (List ℕ))
    → Given z d (formals_words p.formals) (k + result_words p) more a words → ArgumentsCode p z d k more a words
given_code p z d k more a words (nothing_given zero is) = none zero is
given_code p z d k more a words (words_given whole sim) = some whole sim
