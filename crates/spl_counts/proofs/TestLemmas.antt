-- A variable that counts, at its address: how it is read and raised, and what TBA and MTBA do with address, step and limit on top.
use Rattle.std.proofs.Common.{◌≡◌, ℕ, ◌+◌, ◌-◌, ◌<◌, ◌≤◌, Bool, true, false, List, [], ◌∷◌, ◌++◌, length, refl, sym, ap, subst, ◌∙◌, arith}
use Rattle.std.specs.Prelude.{Option, Some, None, Ok, Err, nat_lt, take, slice_index, slice_set, if◌then◌else◌}
use Rattle.std.proofs.lemmas.Bool.{eq-eqb}
use Rattle.std.proofs.lemmas.List.{append-nil, length-set, get_or-set_same, get_or-set_other}
use Rattle.std.proofs.lemmas.Option.{none-some}
use Rattle.std.proofs.Math.Logic.{⊎_elim}
use Rattle.spl_choices.specs.hp_word.declared.arithmetic.Code.{Code}
use Rattle.spl_choices.specs.hp_word.declared.endings.Trap.TheVariants.{Bounds, IntegerOverflow}
use Rattle.spl_choices.specs.hp_word.Words.{added}
use Rattle.spl_choices.specs.hp_instr.declared.instruction.Instr.TheVariants as i
use Rattle.spl_choices.specs.hp_session.declared.places.Place.TheVariants.{Stack}
use Rattle.spl_choices.specs.hp_session.State.{Machine, word, without}
use Rattle.spl_choices.specs.hp_session.Places.{read_at, written}
use Rattle.spl_choices.specs.hp_memory_rows.MemoryRows as machine
use Rattle.spl_choices.specs.hp_flat.Step.{at_left, ended}
use Rattle.hp_call_yields.proofs.hp_yields_proofs.MemoryYields as rows
use Rattle.hp_call_yields.proofs.LoopYields as loop
use Rattle.spl_choices.specs.spl_tree.declared.expressions.Kind.TheVariants as kind
use Rattle.spl_choices.specs.spl_meaning.Elements.{with_one}
use Rattle.spl_choices.specs.spl_meaning.Operations.{word_done}
use Rattle.spl_choices.specs.spl_meaning.Places.{put}
use Rattle.spl_choices.specs.spl_meaning.References.{Setting, Located, variable_located, data_word_read, read, store, placed_word}
use Rattle.spl_choices.specs.spl_meaning.States.{Data, State, Outcome, done, ends, strays, trapped, then_go}
use Rattle.spl_choices.specs.spl_meaning.Statements.{goes_on, raised}
use Rattle.spl_choices.specs.spl_follow.Spots.{Spot, spot, pos, landed, on, Ground, print_between}
use Rattle.spl_choices.specs.spl_follow.Leading.{Leads}
use Rattle.spl_choices.specs.spl_follow.Matching.{Outer, outer, Matches, Kept, Stand, IsValue, Arrives, Coded}
use Rattle.spl_choices.specs.spl_follow.Following.{Rate, tally, Goes}
use Rattle.spl_choices.specs.spl_follow.Doing.{turned, turning, loop_turning}
use Rattle.spl_choices.proofs.spl_follow_proofs.KeepLemmas.{kept_top, matched_length, value_word}
use Rattle.spl_choices.proofs.spl_follow_proofs.RowLemmas.{no_print, shown, yields_matched, yields_kept, put_cases, put_none}
use Rattle.spl_choices.proofs.spl_follow_proofs.StackLemmas.{stand_kept}
use Rattle.spl_choices.proofs.spl_follow_proofs.WayLemmas.{lead}
use Rattle.spl_tops.proofs.spl_values_proofs.SumLemmas.{added_small}

-- ---- what is meant

-- the variable at an address
abbrev pub counter : ℕ → Located
counter a = variable_located kind.Integer a

-- it is read where it is a data word below STACK
pub read_is : (a v : ℕ) (s : State) → nat_lt a s.now.stack ≡ true → s.now.mem a ≡ Some v → read (counter a) s ≡ done (v ∷ []) s
read_is a v s low is =
    ap (λ (b : Bool). then_go (if b then data_word_read (s.now.mem a) s else ends (trapped Bounds) s) (λ w t. done (w ∷ []) t)) low
    ∙ ap (λ (o : Option ℕ). then_go (data_word_read o s) (λ w t. done (w ∷ []) t)) is

-- else the run strays, or traps
pub read_none : (a : ℕ) (s : State) → nat_lt a s.now.stack ≡ true → s.now.mem a ≡ None → read (counter a) s ≡ strays s
read_none a s low is =
    ap (λ (b : Bool). then_go (if b then data_word_read (s.now.mem a) s else ends (trapped Bounds) s) (λ w t. done (w ∷ []) t)) low
    ∙ ap (λ (o : Option ℕ). then_go (data_word_read o s) (λ w t. done (w ∷ []) t)) is

pub read_past : (a : ℕ) (s : State) → nat_lt a s.now.stack ≡ false → read (counter a) s ≡ ends (trapped Bounds) s
read_past a s high =
    ap (λ (b : Bool). then_go (if b then data_word_read (s.now.mem a) s else ends (trapped Bounds) s) (λ w t. done (w ∷ []) t)) high

-- a word is stored there
store_is : (a v old : ℕ) (s : State) → nat_lt a s.now.stack ≡ true → s.now.mem a ≡ Some old
    → store (counter a) (v ∷ []) s ≡ done tt (placed_word false a v s)
store_is a v old s low is =
    ap (λ (b : Bool). then_go (if b then data_word_read (s.now.mem a) s else ends (trapped Bounds) s) (λ w t. done tt (placed_word false a v t))) low
    ∙ ap (λ (o : Option ℕ). then_go (data_word_read o s) (λ w t. done tt (placed_word false a v t))) is

-- what comes behind a read
abbrev raising : ℕ → ℕ → Outcome (List ℕ) → Outcome (Unit {0})
raising a u o = then_go o (λ vs s1. with_one vs s1 (λ v s2. then_go (word_done (added v u) s2) (λ ws s3. store (counter a) ws s3)))

-- the variable is raised where the sum is in range
pub raised_is : (a u v : ℕ) (s : State) → nat_lt a s.now.stack ≡ true → s.now.mem a ≡ Some v → (added v u).overflow ≡ false
    → raised (counter a) u s ≡ done tt (placed_word false a (added v u).value s)
raised_is a u v s low is fits =
    ap (raising a u) (read_is a v s low is)
    ∙ ap (λ (b : Bool). then_go (if b then ends (trapped IntegerOverflow) s else done ((added v u).value ∷ []) s) (λ ws t. store (counter a) ws t)) fits
    ∙ store_is a (added v u).value v s low is

pub raised_over : (a u v : ℕ) (s : State) → nat_lt a s.now.stack ≡ true → s.now.mem a ≡ Some v → (added v u).overflow ≡ true
    → raised (counter a) u s ≡ ends (trapped IntegerOverflow) s
raised_over a u v s low is over =
    ap (raising a u) (read_is a v s low is)
    ∙ ap (λ (b : Bool). then_go (if b then ends (trapped IntegerOverflow) s else done ((added v u).value ∷ []) s) (λ ws t. store (counter a) ws t)) over

pub raised_none : (a u : ℕ) (s : State) → nat_lt a s.now.stack ≡ true → s.now.mem a ≡ None → raised (counter a) u s ≡ strays s
raised_none a u s low is = ap (raising a u) (read_none a s low is)

pub raised_past : (a u : ℕ) (s : State) → nat_lt a s.now.stack ≡ false → raised (counter a) u s ≡ ends (trapped Bounds) s
raised_past a u s high = ap (raising a u) (read_past a s high)

-- both decide alike whether it goes on
same_test : (v u w : ℕ) → machine.goes_on v u w ≡ goes_on u w v
unfolding machine.goes_on
same_test v u w = refl

-- a word that was put is read there
pub put_read : (mem : ℕ → Option ℕ) (a v : ℕ) → put a v mem a ≡ Some v
put_read mem a v = ap (λ (b : Bool). if b then Some v else mem a) (eq-eqb a a refl)

-- ---- values

-- a machine that is moved, and else has the same stack and the same rest, has the value too
pub value_moved : (st : Setting) (p q : Spot) (n k : ℕ) (d : Data) (m : Machine) (vs : List ℕ) (s : State) (m1 m2 : Machine) → spot m2 ≡ q
    → m2.stack ≡ m1.stack → outer m2 ≡ outer m1 → IsValue st p n k d m vs s m1 → IsValue st q n k d m vs s m2
value_moved st p q n k d m vs s m1 m2 at same rest x = record {
  at = at;
  wide = x.wide;
  matches = subst (λ (xs : List ℕ). Matches st s.now xs (outer m2) (k + n)) (sym same)
      (subst (λ (u : Outer). Matches st s.now m1.stack u (k + n)) (sym rest) x.matches);
  stand = subst (λ (xs : List ℕ). Stand xs (d.top + k) vs) (sym same) x.stand;
  small = x.small;
  kept = subst (λ (xs : List ℕ). Kept (d.top + k) d m.stack s.now xs) (sym same) x.kept;
  silent = x.silent;
}

-- three words are deleted
dropped_three : (st : Setting) (p q : Spot) (k : ℕ) (d : Data) (m : Machine) (vs : List ℕ) (s : State) (m1 m2 : Machine) → spot m2 ≡ q
    → m2.stack ≡ take (length m1.stack - 3) m1.stack → outer m2 ≡ outer m1 → IsValue st p 3 k d m vs s m1 → Arrives st q k d m s m2
dropped_three st p q k d m vs s m1 m2 at less rest x =
    let none : k + 0 ≡ k = omega arith in
    let whole = append-nil (take (length m1.stack - 3) m1.stack) ∙ sym less in
    let top = kept_top (d.top + k) d m.stack s.now m1.stack x.kept in
    record {
      at = at;
      matches = subst (λ (u : Outer). Matches st s.now m2.stack u k) (sym rest) (subst (λ (xs : List ℕ). Matches st s.now xs (outer m1) k) whole
          (subst (λ (j : ℕ). Matches st s.now (take (length m1.stack - 3) m1.stack ++ []) (outer m1) j) none (yields_matched st s.now m1 k 3 [] x.matches)));
      kept = subst (λ (xs : List ℕ). Kept (d.top + k) d m.stack s.now xs) whole
          (yields_kept (d.top + k) d m.stack s.now m1.stack [] 3 x.kept (matched_length st s.now m1 k 3 d.top x.matches top));
      coded = subst (λ (c : Option Code). Coded c m2.regs.code) (sym x.silent) tt;
    }

-- ---- a word that is put beneath

-- Words that wait still wait where a data word beneath them is stored.
stored_beneath : (st : Setting) (p q : Spot) (n k a v old : ℕ) (d : Data) (m : Machine) (vs : List ℕ) (s : State) (m1 m2 : Machine) → spot m2 ≡ q
    → m2.stack ≡ slice_set m1.stack a v → outer m2 ≡ outer m1 → s.now.mem a ≡ Some old → v < 65536 → IsValue st p n k d m vs s m1
    → IsValue st q n k d m vs (placed_word false a v s) m2
stored_beneath st p q n k a v old d m vs s m1 m2 at set rest there small x =
    let y = x.matches in
    let words = y.words in
    let wide = x.wide in
    let top = kept_top (d.top + k) d m.stack s.now m1.stack x.kept in
    let below : a < s.now.top = y.low a old there in
    let long : a < length m1.stack = omega (arith, words, below) in
    let t : State = placed_word false a v s in
    let xs : List ℕ = slice_set m1.stack a v in
    let matches : Matches st t.now xs (outer m1) (k + n) = record {
      words = length-set m1.stack a v ∙ y.words;
      lies = y.lies;
      low = λ b z e. ⊎_elim (λ i. subst (λ (i : ℕ). i < s.now.top) (sym i.0) below) (λ i. y.low b z i.1) (put_cases s.now.mem a v b z e);
      holds = λ b z e. ⊎_elim (λ i. ap (λ (c : ℕ). slice_index xs c) i.0 ∙ get_or-set_same m1.stack a v 0 long ∙ sym i.1)
          (λ i. get_or-set_other m1.stack a b v 0 i.0 ∙ y.holds b z i.1) (put_cases s.now.mem a v b z e);
      of_words = record {
        stack = λ b z e. ⊎_elim (λ i. subst (λ (i : ℕ). i < 65536) (sym i.1) small) (λ i. y.of_words.stack b z i.1) (put_cases s.now.mem a v b z e);
        extra = y.of_words.extra;
        lines = y.of_words.lines;
      };
      outer = y.outer;
    } in record {
      at = at;
      wide = x.wide;
      matches = subst (λ (u : Outer). Matches st t.now m2.stack u (k + n)) (sym rest) (subst (λ (ys : List ℕ). Matches st t.now ys (outer m1) (k + n)) (sym set) matches);
      stand = subst (λ (ys : List ℕ). Stand ys (d.top + k) vs) (sym set) (stand_kept m1.stack xs vs (d.top + k) (d.top + k + n) (omega (arith, wide))
          (λ i from to. get_or-set_other m1.stack a i v 0 (λ same. absurd (omega (arith, same, from, below, top)))) x.stand);
      small = x.small;
      kept = subst (λ (ys : List ℕ). Kept (d.top + k) d m.stack t.now ys) (sym set) (record {
        footing = x.kept.footing;
        none = λ b h. put_none s.now.mem a v old b there (x.kept.none b h);
        word = λ b low h.
            get_or-set_other m1.stack a b v 0 (λ same. none-some old (sym (x.kept.none b h) ∙ ap s.now.mem same ∙ there)) ∙ x.kept.word b low h;
      });
      silent = x.silent;
    }

-- ---- TBA and MTBA

-- what a test leaves: address, step and limit where it leads on; and else they are deleted
abbrev pub Went : Setting → Spot → Spot → ℕ → Data → Machine → List ℕ → State → Machine → Bool → Type 0
Went st to q k d m vs s n true = IsValue st to 3 k d m vs s n
Went st to q k d m vs s n false = Arrives st q k d m s n

-- the machine then
abbrev turned_to : Bool → Spot → Spot → Machine → Machine
turned_to b to q m = loop_turning b to q m

-- from where the three words wait
went : (st : Setting) (p to q : Spot) (k : ℕ) (d : Data) (m : Machine) (vs : List ℕ) (s : State) (m1 m2 : Machine) → m2.stack ≡ m1.stack → outer m2 ≡ outer m1
    → IsValue st p 3 k d m vs s m1 → (b : Bool) → Went st to q k d m vs s (turned_to b to q m2) b
went st p to q k d m vs s m1 m2 same rest x true = value_moved st p to 3 k d m vs s m1 (landed to m2) refl same rest x
went st p to q k d m vs s m1 m2 same rest x false =
    dropped_three st p q k d m vs s m1 (landed q (without 3 m2)) refl (ap (λ (xs : List ℕ). take (length xs - 3) xs) same) rest x

-- the three words are the machine's
limit_is : (st : Setting) (p : Spot) (k a u w : ℕ) (d : Data) (m : Machine) (s : State) (n : Machine) → IsValue st p 3 k d m (a ∷ u ∷ w ∷ []) s n → word 0 n ≡ w
limit_is st p k a u w d m s n x = value_word st p 3 k 0 2 d m (a ∷ u ∷ w ∷ []) s n x refl

step_is : (st : Setting) (p : Spot) (k a u w : ℕ) (d : Data) (m : Machine) (s : State) (n : Machine) → IsValue st p 3 k d m (a ∷ u ∷ w ∷ []) s n → word 1 n ≡ u
step_is st p k a u w d m s n x = value_word st p 3 k 1 1 d m (a ∷ u ∷ w ∷ []) s n x refl

address_is : (st : Setting) (p : Spot) (k a u w : ℕ) (d : Data) (m : Machine) (s : State) (n : Machine) → IsValue st p 3 k d m (a ∷ u ∷ w ∷ []) s n → word 2 n ≡ a
address_is st p k a u w d m s n x = value_word st p 3 k 2 0 d m (a ∷ u ∷ w ∷ []) s n x refl

-- there are three
three_there : (st : Setting) (p : Spot) (k : ℕ) (d : Data) (m : Machine) (vs : List ℕ) (s : State) (n : Machine) → IsValue st p 3 k d m vs s n
    → 3 ≤ length n.stack
three_there st p k d m vs s n x = let words = x.matches.words in omega (arith, words)

-- the machine reads the variable where the run does
found : (st : Setting) (p : Spot) (k a u w v : ℕ) (d : Data) (m : Machine) (s : State) (n : Machine) → IsValue st p 3 k d m (a ∷ u ∷ w ∷ []) s n
    → s.now.mem a ≡ Some v → read_at (Stack (word 2 (at_left n))) (at_left n) ≡ Ok v
found st p k a u w v d m s n x there =
    let words = x.matches.words in
    let low = x.matches.low a v there in
    let long : a < length n.stack = omega (arith, words, low) in
    ap (λ (b : ℕ). read_at (Stack b) (at_left n)) (address_is st p k a u w d m s n x)
    ∙ rows.read_there (Stack a) false (at_left n) refl long ∙ ap (λ (b : ℕ). Ok b) (x.matches.holds a v there)

-- and past STACK there is nothing
lost : (st : Setting) (p : Spot) (k a u w : ℕ) (d : Data) (m : Machine) (s : State) (n : Machine) → IsValue st p 3 k d m (a ∷ u ∷ w ∷ []) s n
    → s.now.top + (k + 3) ≤ s.now.stack → s.now.stack ≤ a → read_at (Stack (word 2 (at_left n))) (at_left n) ≡ Err Bounds
lost st p k a u w d m s n x room high =
    let words = x.matches.words in
    let past : length n.stack ≤ a = omega (arith, words, room, high) in
    ap (λ (b : ℕ). read_at (Stack b) (at_left n)) (address_is st p k a u w d m s n x) ∙ rows.read_past (Stack a) false (at_left n) refl past

-- TBA, where the variable is a data word
pub tested : (g : Ground) (w : Rate) (st : Setting) (p q to : Spot) (k a u l v : ℕ) (d : Data) (m : Machine) (s : State) (n : Machine)
    → Leads g (on p) q (turning (i.Loop false false 0) to q) → IsValue st p 3 k d m (a ∷ u ∷ l ∷ []) s n → s.now.mem a ≡ Some v
    → (n1 : Machine) × Goes g w (pos q - pos p) 0 w.reach (tally s) n (tally s) n1 × Went st to q k d m (a ∷ u ∷ l ∷ []) s n1 (goes_on u l v)
tested g w st p q to k a u l v d m s n leads x there =
    let shows = shown st s n (k + 3) x.matches in
    let three = three_there st p k d m (a ∷ u ∷ l ∷ []) s n x in
    let n1 : Machine = turned_to (goes_on u l v) to q (at_left n) in
    let answer : machine.goes_on v (word 1 n) (word 0 n) ≡ goes_on u l v =
    ap (λ (b : ℕ). machine.goes_on v b (word 0 n)) (step_is st p k a u l d m s n x) ∙ ap (λ (b : ℕ). machine.goes_on v u b) (limit_is st p k a u l d m s n x)
    ∙ same_test v u l in
    let is : turning (i.Loop false false 0) to q n ≡ n1 =
    ap (λ o. ended n o) (loop.loop_tested false 0 v to q (at_left n) three (found st p k a u l v d m s n x there))
    ∙ ap (λ (b : Bool). turned_to b to q (at_left n)) answer in (
      n1,
      lead g w (on p) q (turning (i.Loop false false 0) to q) s.begun s n n1 leads x.at shows.ending refl is (printed_same (goes_on u l v)),
      went st p to q k d m (a ∷ u ∷ l ∷ []) s n (at_left n) refl refl x (goes_on u l v),
    ) where
      printed_same : (b : Bool) → print_between n (turned_to b to q (at_left n)) ≡ []
      printed_same true = no_print n (turned_to true to q (at_left n)) refl
      printed_same false = no_print n (turned_to false to q (at_left n)) refl

-- the machine once the sum is stored
abbrev summed : ℕ → ℕ → Machine → Machine
summed a r m = record m { stack = slice_set m.stack a r; regs = record m.regs { overflow = false } }

-- MTBA, where the variable is a data word and the sum in range
pub stepped : (g : Ground) (w : Rate) (st : Setting) (p q to : Spot) (k a u l v : ℕ) (d : Data) (m : Machine) (s : State) (n : Machine)
    → Leads g (on p) q (turning (i.Loop true false 0) to q) → IsValue st p 3 k d m (a ∷ u ∷ l ∷ []) s n → s.now.mem a ≡ Some v
    → (added v u).overflow ≡ false
    → (n1 : Machine) × Goes g w (pos q - pos p) 0 w.reach (tally s) n (tally s) n1
    × Went st to q k d m (a ∷ u ∷ l ∷ []) (placed_word false a (added v u).value s) n1 (goes_on u l (added v u).value)
stepped g w st p q to k a u l v d m s n leads x there fits =
    let shows = shown st s n (k + 3) x.matches in
    let three = three_there st p k d m (a ∷ u ∷ l ∷ []) s n x in
    let words = x.matches.words in
    let low = x.matches.low a v there in
    let long : a < length n.stack = omega (arith, words, low) in
    let r : ℕ = (added v u).value in
    let step = step_is st p k a u l d m s n x in
    let n1 : Machine = turned_to (goes_on u l r) to q (summed a r (at_left n)) in
    let puts : written (Stack (word 2 (at_left n))) (added v (word 1 (at_left n))).value (at_left n) ≡ Ok (record (at_left n) { stack = slice_set n.stack a r }) =
    ap (λ (b : ℕ). written (Stack b) (added v (word 1 (at_left n))).value (at_left n)) (address_is st p k a u l d m s n x)
    ∙ ap (λ (b : ℕ). written (Stack a) (added v b).value (at_left n)) step ∙ rows.written_there (Stack a) false r (at_left n) refl long in
    let answer : machine.goes_on (added v (word 1 n)).value (word 1 n) (word 0 n) ≡ goes_on u l r =
    ap (λ (b : ℕ). machine.goes_on (added v b).value b (word 0 n)) step ∙ ap (λ (b : ℕ). machine.goes_on r u b) (limit_is st p k a u l d m s n x)
    ∙ same_test r u l in
    let is : turning (i.Loop true false 0) to q n ≡ n1 =
    ap (λ o. ended n o) (loop.loop_stepped false 0 v to q (record (at_left n) { stack = slice_set n.stack a r }) (at_left n) three (found st p k a u l v d m s n x there)
    (ap (λ (b : ℕ). (added v b).overflow) step ∙ fits) puts)
    ∙ ap (λ (b : Bool). turned_to b to q (summed a r (at_left n))) answer in
    let stored = stored_beneath st p to 3 k a r v d m (a ∷ u ∷ l ∷ []) s n (landed to (summed a r (at_left n))) refl refl refl there (added_small v u) x in (
      n1,
      lead g w (on p) q (turning (i.Loop true false 0) to q) s.begun s n n1 leads x.at shows.ending refl is (printed_same (goes_on u l r)),
      went st to to q k d m (a ∷ u ∷ l ∷ []) (placed_word false a r s) (landed to (summed a r (at_left n))) (summed a r (at_left n)) refl refl stored (goes_on u l r),
    ) where
      printed_same : (b : Bool) → print_between n (turned_to b to q (summed a (added v u).value (at_left n))) ≡ []
      printed_same true = no_print n (turned_to true to q (summed a (added v u).value (at_left n))) refl
      printed_same false = no_print n (turned_to false to q (summed a (added v u).value (at_left n))) refl

-- ---- where they trap

pub test_past : (st : Setting) (p q to : Spot) (k a u l : ℕ) (d : Data) (m : Machine) (s : State) (n : Machine) → IsValue st p 3 k d m (a ∷ u ∷ l ∷ []) s n
    → s.now.top + (k + 3) ≤ s.now.stack → s.now.stack ≤ a → turned (i.Loop false false 0) to q (at_left n) ≡ Err Bounds
test_past st p q to k a u l d m s n x room high =
    loop.loop_test_reads_none false 0 Bounds to q (at_left n) (three_there st p k d m (a ∷ u ∷ l ∷ []) s n x) (lost st p k a u l d m s n x room high)

pub step_past : (st : Setting) (p q to : Spot) (k a u l : ℕ) (d : Data) (m : Machine) (s : State) (n : Machine) → IsValue st p 3 k d m (a ∷ u ∷ l ∷ []) s n
    → s.now.top + (k + 3) ≤ s.now.stack → s.now.stack ≤ a → turned (i.Loop true false 0) to q (at_left n) ≡ Err Bounds
step_past st p q to k a u l d m s n x room high =
    loop.loop_step_reads_none false 0 Bounds to q (at_left n) (three_there st p k d m (a ∷ u ∷ l ∷ []) s n x) (lost st p k a u l d m s n x room high)

pub step_over : (st : Setting) (p q to : Spot) (k a u l v : ℕ) (d : Data) (m : Machine) (s : State) (n : Machine) → IsValue st p 3 k d m (a ∷ u ∷ l ∷ []) s n
    → s.now.mem a ≡ Some v → (added v u).overflow ≡ true → turned (i.Loop true false 0) to q (at_left n) ≡ Err IntegerOverflow
step_over st p q to k a u l v d m s n x there over =
    loop.loop_step_overflows false 0 v to q (at_left n) (three_there st p k d m (a ∷ u ∷ l ∷ []) s n x) (found st p k a u l v d m s n x there)
    (ap (λ (b : ℕ). (added v b).overflow) (step_is st p k a u l d m s n x) ∙ over)
