-- Bytes that are stored in data words and on a stack: the data words still stand on it, and nothing else has changed.
use Rattle.std.proofs.Common.{◌≡◌, ◌≢◌, ◌⊎◌, inl, inr, ℕ, ◌-◌, ◌/◌, ◌<◌, ◌≤◌, Bool, true, false, List, [], ◌∷◌, map, length, Option, None, Some, refl, sym, ap, subst, ◌∙◌, arith}
use Rattle.std.specs.Prelude.{if◌then◌else◌, is_some, slice_index, slice_set, nat_eq, unwrap_or}
use Rattle.std.proofs.Math.Logic.{⊎_elim}
use Rattle.std.proofs.lemmas.Bool.{and_parts, and_from, false≢true, eqb-true, eq-eqb}
use Rattle.std.proofs.lemmas.List.{length-set, get_or-set_same, get_or-set_other}
use Rattle.std.proofs.lemmas.Option.{none-some}
use Rattle.spl_statement_code.specs.hp_word.Bytes.{with_byte}
use Rattle.spl_endings.specs.hp_call_rows.GateRows as row
use Rattle.spl_statement_code.specs.spl_meaning.Places.{changed, stored, word_or_zero, put_byte}
use Rattle.spl_statement_code.specs.spl_meaning.Serving.{with_bytes, all_data}
use Rattle.spl_endings.proofs.spl_frames_proofs.Steady.{BytesOf}
use Rattle.spl_endings.proofs.spl_frames_proofs.WordFacts.{IsWord}

-- ---- one word

-- The data words stand on a stack: each is below the frame's top, a word, and at its address.
pub record Standing (top : ℕ) (mem : ℕ → Option ℕ) (stack : List ℕ) : Type 0 where
  pub low : (a v : ℕ) → mem a ≡ Some v → a < top
  pub holds : (a v : ℕ) → mem a ≡ Some v → slice_index stack a ≡ v
  pub small : (a v : ℕ) → mem a ≡ Some v → v < 65536
  pub long : top ≤ length stack

-- what is no data word has not changed, neither there nor on the stack
pub record Beside (mem : ℕ → Option ℕ) (stack : List ℕ) (mem' : ℕ → Option ℕ) (stack' : List ℕ) : Type 0 where
  pub none : (a : ℕ) → mem a ≡ None → mem' a ≡ None
  pub word : (a : ℕ) → mem a ≡ None → slice_index stack' a ≡ slice_index stack a
  pub count : length stack' ≡ length stack

-- a data word that takes another value: at its address it is that one, and each other is as before
stored_cases : (mem : ℕ → Option ℕ) (a v old b x : ℕ) → mem a ≡ Some old → stored a v mem b ≡ Some x
    → ((b ≡ a) × (x ≡ v)) ⊎ ((b ≢ a) × (mem b ≡ Some x))
stored_cases mem a v old b x there e = by (nat_eq a b) refl e where
  by : (t : Bool) → nat_eq a b ≡ t → (if t then changed (mem b) v else mem b) ≡ Some x → ((b ≡ a) × (x ≡ v)) ⊎ ((b ≢ a) × (mem b ≡ Some x))
  by true t e =
      let same = eqb-true a b t in
      let was : mem b ≡ Some old = ap mem (sym same) ∙ there in
      inl (sym same, sym (ap (λ (o : Option ℕ). unwrap_or o 0) (sym (ap (λ (o : Option ℕ). changed o v) was) ∙ e)))
  by false t e = inr (λ same. false≢true (sym t ∙ eq-eqb a b (sym same)), e)

-- what is none stays none
stored_none : (mem : ℕ → Option ℕ) (a v b : ℕ) → mem b ≡ None → stored a v mem b ≡ None
stored_none mem a v b none = by (nat_eq a b) where
  by : (t : Bool) → (if t then changed (mem b) v else mem b) ≡ None
  by true = ap (λ (o : Option ℕ). changed o v) none
  by false = none

-- the same words are data words
stored_there : (mem : ℕ → Option ℕ) (a v b : ℕ) → is_some (stored a v mem b) ≡ is_some (mem b)
stored_there mem a v b = by (nat_eq a b) (mem b) where
  by : (t : Bool) (o : Option ℕ) → is_some (if t then changed o v else o) ≡ is_some o
  by true (Some w) = refl
  by true None = refl
  by false o = refl

still_data : (mem : ℕ → Option ℕ) (a v : ℕ) (bs : List ℕ) → all_data mem bs ≡ true → all_data (stored a v mem) bs ≡ true
still_data mem a v [] h = refl
still_data mem a v (b ∷ bs) h =
    let two = and_parts (is_some (mem (b / 2))) (all_data mem bs) h in
    and_from (is_some (stored a v mem (b / 2))) (all_data (stored a v mem) bs) (stored_there mem a v (b / 2) ∙ two.0) (still_data mem a v bs two.1)

-- a word that is stored in both
word_stored : (top : ℕ) (mem : ℕ → Option ℕ) (stack : List ℕ) (a v old : ℕ) → Standing top mem stack → mem a ≡ Some old → v < 65536
    → Standing top (stored a v mem) (slice_set stack a v)
word_stored top mem stack a v old x there small =
    let low = x.low a old there in
    let long = x.long in
    record {
      low = λ b w e. ⊎_elim (λ i. subst (λ (c : ℕ). c < top) (sym i.0) low) (λ i. x.low b w i.1) (stored_cases mem a v old b w there e);
      holds = λ b w e. ⊎_elim
          (λ i. ap (λ (c : ℕ). slice_index (slice_set stack a v) c) i.0 ∙ get_or-set_same stack a v 0 (omega (arith, low, long)) ∙ sym i.1)
          (λ i. get_or-set_other stack a b v 0 i.0 ∙ x.holds b w i.1) (stored_cases mem a v old b w there e);
      small = λ b w e. ⊎_elim (λ i. subst (λ (c : ℕ). c < 65536) (sym i.1) small) (λ i. x.small b w i.1) (stored_cases mem a v old b w there e);
      long = subst (λ (n : ℕ). top ≤ n) (sym (length-set stack a v)) x.long;
    }

word_beside : (mem : ℕ → Option ℕ) (stack : List ℕ) (a v old : ℕ) → mem a ≡ Some old → Beside mem stack (stored a v mem) (slice_set stack a v)
word_beside mem stack a v old there = record {
  none = λ b h. stored_none mem a v b h;
  word = λ b h. get_or-set_other stack a b v 0 (λ same. none-some old (sym h ∙ ap mem same ∙ there));
  count = length-set stack a v;
}

-- ---- bytes

beside_on : (mem : ℕ → Option ℕ) (stack : List ℕ) (mem1 : ℕ → Option ℕ) (stack1 : List ℕ) (mem2 : ℕ → Option ℕ) (stack2 : List ℕ)
    → Beside mem stack mem1 stack1 → Beside mem1 stack1 mem2 stack2 → Beside mem stack mem2 stack2
beside_on mem stack mem1 stack1 mem2 stack2 x y = record {
  none = λ a h. y.none a (x.none a h);
  word = λ a h. y.word a (x.none a h) ∙ x.word a h;
  count = y.count ∙ x.count;
}

-- the word of a byte is the same in both
same_word : (top : ℕ) (mem : ℕ → Option ℕ) (stack : List ℕ) (b v old : ℕ) → Standing top mem stack → mem (b / 2) ≡ Some old
    → (put_byte b v mem ≡ stored (b / 2) (with_byte b v old) mem) × (row.with_stack_byte stack b v ≡ slice_set stack (b / 2) (with_byte b v old))
same_word top mem stack b v old x there = (
  ap (λ (o : Option ℕ). stored (b / 2) (with_byte b v (word_or_zero o)) mem) there,
  ap (λ (w : ℕ). slice_set stack (b / 2) (with_byte b v w)) (x.holds (b / 2) old there),
)

-- what bytes leave that are stored in both
pub record Puts (top : ℕ) (mem : ℕ → Option ℕ) (stack : List ℕ) (mem' : ℕ → Option ℕ) (stack' : List ℕ) : Type 0 where
  pub standing : Standing top mem' stack'
  pub beside : Beside mem stack mem' stack'

byte_put : (top : ℕ) (mem : ℕ → Option ℕ) (stack : List ℕ) (b v old : ℕ) → Standing top mem stack → mem (b / 2) ≡ Some old
    → ((w : ℕ) → IsWord w → IsWord (with_byte b v w)) → Puts top mem stack (put_byte b v mem) (row.with_stack_byte stack b v)
byte_put top mem stack b v old x there small =
    let same = same_word top mem stack b v old x there in
    let w = with_byte b v old in
    subst (λ (f : ℕ → Option ℕ). Puts top mem stack f (row.with_stack_byte stack b v)) (sym same.0)
    (subst (λ (ys : List ℕ). Puts top mem stack (stored (b / 2) w mem) ys) (sym same.1)
    (record {
      standing = word_stored top mem stack (b / 2) w old x there (small old (x.small (b / 2) old there));
      beside = word_beside mem stack (b / 2) w old there;
    }))

puts_on : (top : ℕ) (mem : ℕ → Option ℕ) (stack : List ℕ) (mem1 : ℕ → Option ℕ) (stack1 : List ℕ) (mem2 : ℕ → Option ℕ) (stack2 : List ℕ)
    → Puts top mem stack mem1 stack1 → Puts top mem1 stack1 mem2 stack2 → Puts top mem stack mem2 stack2
puts_on top mem stack mem1 stack1 mem2 stack2 x y = record { standing = y.standing; beside = beside_on mem stack mem1 stack1 mem2 stack2 x.beside y.beside }

some_old : (o : Option ℕ) → is_some o ≡ true → (v : ℕ) × (o ≡ Some v)
some_old (Some v) h = (v, refl)
some_old None h = absurd (false≢true h)

-- bytes one after another
pub bytes_put : (top : ℕ) (ps : List (ℕ × ℕ)) (mem : ℕ → Option ℕ) (stack : List ℕ) → Standing top mem stack → all_data mem (map (λ p. p.0) ps) ≡ true
    → BytesOf IsWord ps → Puts top mem stack (with_bytes ps mem) (row.with_bytes stack ps)
unfolding row.with_bytes
bytes_put top [] mem stack x h k = record { standing = x; beside = record { none = λ a e. e; word = λ a e. refl; count = refl } }
bytes_put top (p ∷ ps) mem stack x h k =
    let two = and_parts (is_some (mem (p.0 / 2))) (all_data mem (map (λ p. p.0) ps)) h in
    let old = some_old (mem (p.0 / 2)) two.0 in
    let one = byte_put top mem stack p.0 p.1 old.0 x old.1 k.0 in
    puts_on top mem stack (put_byte p.0 p.1 mem) (row.with_stack_byte stack p.0 p.1) (with_bytes ps (put_byte p.0 p.1 mem))
    (row.with_bytes (row.with_stack_byte stack p.0 p.1) ps) one
    (bytes_put top ps (put_byte p.0 p.1 mem) (row.with_stack_byte stack p.0 p.1) one.standing
    (still_data mem (p.0 / 2) (with_byte p.0 p.1 (word_or_zero (mem (p.0 / 2)))) (map (λ p. p.0) ps) two.1) k.1)
