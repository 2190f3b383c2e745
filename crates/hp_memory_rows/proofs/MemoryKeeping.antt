-- Each instruction with an operand in memory, and each branch, keeps what rows keep. A law has its row's name. A store keeps the
-- length of what it stores into; what follows from an answer keeps what it keeps for every answer.
use Rattle.std.proofs.Common.{ℕ, Bool, true, false, List}
use Rattle.hp_word.specs.declared.arithmetic.Arith.{Arith}
use Rattle.hp_instr.specs.declared.instruction.Mode.{Mode}
use Rattle.hp_session.specs.declared.places.Place.{Place}
use Rattle.hp_session.specs.declared.places.Place.TheVariants.{Stack}
use Rattle.hp_session.specs.State.{Machine, Outcome, word, displaced}
use Rattle.hp_session.specs.Places.{put, operand, byte_operand, read_at, byte_read, moved}
use Rattle.hp_session.proofs.KeepingForms.{IsKept, Keeps}
use Rattle.hp_session.proofs.KeepingLaws.{same, chained, either, taking-kept, after_answer, after_row, pushing-kept, pushing_all-kept, settled-kept, put-kept, written-kept, byte_written-kept}
use Rattle.hp_memory_rows.specs.MemoryRows.{reading, loaded, stored, compared_in_memory, with_memory, settled_at, in_memory, index_loaded, byte_loaded, byte_stored, double_loaded, double_stored, address_loaded, memory_row, code_read, code_loaded, branched, looped, loop_tested, loop_stepped}

-- a row that reads its operand's word
reading-kept : (count : ℕ) (m : Machine) (size : ℕ) (mode : Mode) (i x : Bool) (go : ℕ → Outcome) → ((w : ℕ) → Keeps count m (go w)) → Keeps count m (reading size mode i x m go)
reading-kept count m size mode i x go p = after_answer count m (operand size mode i x m) _ (λ place. after_answer count m (read_at place m) go p)

loaded-kept : (count : ℕ) (m : Machine) (mode : Mode) (i : Bool) (x : Bool) → Keeps count m (loaded mode i x m)
unfolding loaded
loaded-kept count m mode i x = reading-kept count m 1 mode i x _ (λ w. pushing-kept count m w)

stored-kept : (count : ℕ) (m : Machine) (mode : Mode) (i : Bool) (x : Bool) → Keeps count m (stored mode i x m)
unfolding stored
stored-kept count m mode i x = taking-kept count m 1 _ (after_answer count m (operand 1 mode i x m) _ (λ place. after_row count m _ _ (written-kept count m place _) (λ n h. h)))

compared_in_memory-kept : (count : ℕ) (m : Machine) (mode : Mode) (i : Bool) (x : Bool) → Keeps count m (compared_in_memory mode i x m)
unfolding compared_in_memory
compared_in_memory-kept count m mode i x = taking-kept count m 1 _ (reading-kept count m 1 mode i x _ (λ w. same count m))

with_memory-kept : (count : ℕ) (m : Machine) (f : ℕ → ℕ → Arith) (mode : Mode) (i : Bool) (x : Bool) → Keeps count m (with_memory f mode i x m)
unfolding with_memory
with_memory-kept count m f mode i x = taking-kept count m 1 _ (reading-kept count m 1 mode i x _ (λ w. settled-kept count m 1 _))

settled_at-kept : (count : ℕ) (m : Machine) (place : Place) (r : Arith) → Keeps count m (settled_at place r m)
unfolding settled_at
settled_at-kept count m place r = either count m r.overflow _ _ tt (after_row count m _ _ (written-kept count m place _) (λ n h. h))

in_memory-kept : (count : ℕ) (m : Machine) (f : ℕ → ℕ → Arith) (mode : Mode) (i : Bool) (x : Bool) → Keeps count m (in_memory f mode i x m)
unfolding in_memory
in_memory-kept count m f mode i x = after_answer count m (operand 1 mode i x m) _ (λ place. after_answer count m (read_at place m) _ (λ w.
    after_row count m _ _ (settled_at-kept count m place _) (λ n h. h)))

index_loaded-kept : (count : ℕ) (m : Machine) (mode : Mode) (i : Bool) (x : Bool) → Keeps count m (index_loaded mode i x m)
unfolding index_loaded
index_loaded-kept count m mode i x = reading-kept count m 1 mode i x _ (λ w. same count m)

byte_loaded-kept : (count : ℕ) (m : Machine) (mode : Mode) (i : Bool) (x : Bool) → Keeps count m (byte_loaded mode i x m)
unfolding byte_loaded
byte_loaded-kept count m mode i x = after_answer count m (byte_operand mode i x m) _ (λ place. after_answer count m (byte_read place m) _ (λ byte. pushing-kept count m byte))

byte_stored-kept : (count : ℕ) (m : Machine) (mode : Mode) (i : Bool) (x : Bool) → Keeps count m (byte_stored mode i x m)
unfolding byte_stored
byte_stored-kept count m mode i x = taking-kept count m 1 _ (after_answer count m (byte_operand mode i x m) _ (λ place. after_row count m _ _ (byte_written-kept count m place _) (λ n h. h)))

double_loaded-kept : (count : ℕ) (m : Machine) (mode : Mode) (i : Bool) (x : Bool) → Keeps count m (double_loaded mode i x m)
unfolding double_loaded
double_loaded-kept count m mode i x = search (after_answer, pushing_all-kept) depth 8

double_stored-kept : (count : ℕ) (m : Machine) (mode : Mode) (i : Bool) (x : Bool) → Keeps count m (double_stored mode i x m)
unfolding double_stored
double_stored-kept count m mode i x = taking-kept count m 2 _ (after_answer count m (operand 2 mode i x m) _ (λ place. after_answer count m (read_at place m) _ (λ _.
    after_answer count m (read_at (moved 1 place) m) _ (λ _. chained count m (put place (word 1 m) m) (put (moved 1 place) (word 0 m) (put place (word 1 m) m)) (put-kept count m place _) (put-kept count (put place (word 1 m) m) (moved 1 place) _)))))

address_loaded-kept : (count : ℕ) (m : Machine) (mode : Mode) (i : Bool) (x : Bool) → Keeps count m (address_loaded mode i x m)
unfolding address_loaded
address_loaded-kept count m mode i x = after_answer count m (operand 1 mode i x m) _ (λ place. pushing-kept count m _)

pub memory_row-kept : (count : ℕ) (m : Machine) (major : ℕ) (second : Bool) (mode : Mode) (i : Bool) (x : Bool) → Keeps count m (memory_row major second mode i x m)
unfolding memory_row
memory_row-kept count m major second mode i x = search (either, loaded-kept, stored-kept, compared_in_memory-kept, with_memory-kept, in_memory-kept, index_loaded-kept, byte_loaded-kept, byte_stored-kept, double_loaded-kept, double_stored-kept, address_loaded-kept) depth 20

pub code_loaded-kept : (count : ℕ) (m : Machine) (segments : List (List ℕ)) (back : Bool) (d : ℕ) → Keeps count m (code_loaded segments back d m)
unfolding code_loaded
code_loaded-kept count m segments back d = after_answer count m (code_read segments (displaced back d m.regs.p) m) _ (λ w. pushing-kept count m w)

pub branched-kept : (count : ℕ) (m : Machine) (segments : List (List ℕ)) (i : Bool) (back : Bool) (d : ℕ) → Keeps count m (branched segments i back d m)
unfolding branched
branched-kept count m segments i back d = either count m i _ _ (after_answer count m (code_read segments (displaced back d m.regs.p) m) _ (λ w. same count m)) (same count m)

looped-kept : (count : ℕ) (m n : Machine) (on back : Bool) (d : ℕ) → IsKept count m n → IsKept count m (looped on back d n)
unfolding looped
looped-kept count m n true back d h = h
looped-kept count m n false back d h = h

pub loop_tested-kept : (count : ℕ) (m : Machine) (back : Bool) (d : ℕ) → Keeps count m (loop_tested back d m)
unfolding loop_tested
loop_tested-kept count m back d = taking-kept count m 3 _ (after_answer count m (read_at (Stack (word 2 m)) m) _ (λ w. looped-kept count m m _ back d (same count m)))

pub loop_stepped-kept : (count : ℕ) (m : Machine) (back : Bool) (d : ℕ) → Keeps count m (loop_stepped back d m)
unfolding loop_stepped
loop_stepped-kept count m back d = taking-kept count m 3 _ (after_answer count m (read_at (Stack (word 2 m)) m) _ (λ w.
    after_row count m _ _ (settled_at-kept count m (Stack (word 2 m)) _) (λ n h. looped-kept count m n _ back d h)))
