-- Each instruction with an operand in memory leaves the session where it stands. A law has its row's name. What follows from an answer
-- stays for every answer.
use Rattle.std.proofs.Common.{ℕ, Bool, List, refl, ◌∙◌}
use Rattle.hp_flat.specs.hp_word.declared.arithmetic.Arith.{Arith}
use Rattle.hp_flat.specs.hp_instr.declared.instruction.Mode.{Mode}
use Rattle.hp_flat.specs.hp_session.declared.places.Place.{Place}
use Rattle.hp_flat.specs.hp_session.State.{Machine, Outcome, word, displaced}
use Rattle.hp_flat.specs.hp_session.Places.{put, operand, byte_operand, read_at, byte_read, moved}
use Rattle.hp_steady.specs.Rest.{Stays}
use Rattle.hp_steady.proofs.StayForms.{either, taking-stays, after_answer, after_row, pushing-stays, pushing_all-stays, settled-stays, put-stays, written-stays, byte_written-stays}
use Rattle.hp_flat.specs.hp_memory_rows.MemoryRows.{reading, loaded, stored, compared_in_memory, with_memory, settled_at, in_memory, index_loaded, byte_loaded, byte_stored, double_loaded, double_stored, address_loaded, memory_row, code_read, code_loaded}

-- a row that reads its operand's word
reading-stays : (m : Machine) (size : ℕ) (mode : Mode) (i x : Bool) (go : ℕ → Outcome) → ((w : ℕ) → Stays m (go w))
    → Stays m (reading size mode i x m go)
reading-stays m size mode i x go p = after_answer m (operand size mode i x m) _ (λ place. after_answer m (read_at place m) go p)

loaded-stays : (m : Machine) (mode : Mode) (i : Bool) (x : Bool) → Stays m (loaded mode i x m)
unfolding loaded
loaded-stays m mode i x = reading-stays m 1 mode i x _ (λ w. pushing-stays m w)

stored-stays : (m : Machine) (mode : Mode) (i : Bool) (x : Bool) → Stays m (stored mode i x m)
unfolding stored
stored-stays m mode i x = taking-stays m 1 _ (after_answer m (operand 1 mode i x m) _ (λ place. after_row m _ _ (written-stays m place _) (λ n h. h)))

compared_in_memory-stays : (m : Machine) (mode : Mode) (i : Bool) (x : Bool) → Stays m (compared_in_memory mode i x m)
unfolding compared_in_memory
compared_in_memory-stays m mode i x = taking-stays m 1 _ (reading-stays m 1 mode i x _ (λ w. refl))

with_memory-stays : (m : Machine) (f : ℕ → ℕ → Arith) (mode : Mode) (i : Bool) (x : Bool) → Stays m (with_memory f mode i x m)
unfolding with_memory
with_memory-stays m f mode i x = taking-stays m 1 _ (reading-stays m 1 mode i x _ (λ w. settled-stays m 1 _))

settled_at-stays : (m : Machine) (place : Place) (r : Arith) → Stays m (settled_at place r m)
unfolding settled_at
settled_at-stays m place r = either m r.overflow _ _ tt (after_row m _ _ (written-stays m place _) (λ n h. h))

in_memory-stays : (m : Machine) (f : ℕ → ℕ → Arith) (mode : Mode) (i : Bool) (x : Bool) → Stays m (in_memory f mode i x m)
unfolding in_memory
in_memory-stays m f mode i x = after_answer m (operand 1 mode i x m) _ (λ place. after_answer m (read_at place m) _ (λ w.
    after_row m _ _ (settled_at-stays m place _) (λ n h. h)))

index_loaded-stays : (m : Machine) (mode : Mode) (i : Bool) (x : Bool) → Stays m (index_loaded mode i x m)
unfolding index_loaded
index_loaded-stays m mode i x = reading-stays m 1 mode i x _ (λ w. refl)

byte_loaded-stays : (m : Machine) (mode : Mode) (i : Bool) (x : Bool) → Stays m (byte_loaded mode i x m)
unfolding byte_loaded
byte_loaded-stays m mode i x = after_answer m (byte_operand mode i x m) _ (λ place. after_answer m (byte_read place m) _ (λ byte. pushing-stays m byte))

byte_stored-stays : (m : Machine) (mode : Mode) (i : Bool) (x : Bool) → Stays m (byte_stored mode i x m)
unfolding byte_stored
byte_stored-stays m mode i x = taking-stays m 1 _ (after_answer m (byte_operand mode i x m) _ (λ place. after_row m _ _ (byte_written-stays m place _) (λ n h. h)))

double_loaded-stays : (m : Machine) (mode : Mode) (i : Bool) (x : Bool) → Stays m (double_loaded mode i x m)
unfolding double_loaded
double_loaded-stays m mode i x = search (after_answer, pushing_all-stays) depth 8

double_stored-stays : (m : Machine) (mode : Mode) (i : Bool) (x : Bool) → Stays m (double_stored mode i x m)
unfolding double_stored
double_stored-stays m mode i x = taking-stays m 2 _ (after_answer m (operand 2 mode i x m) _ (λ place. after_answer m (read_at place m) _ (λ _.
    after_answer m (read_at (moved 1 place) m) _ (λ _. put-stays (put place (word 1 m) m) (moved 1 place) _ ∙ put-stays m place _))))

address_loaded-stays : (m : Machine) (mode : Mode) (i : Bool) (x : Bool) → Stays m (address_loaded mode i x m)
unfolding address_loaded
address_loaded-stays m mode i x = after_answer m (operand 1 mode i x m) _ (λ place. pushing-stays m _)

pub memory_row-stays : (m : Machine) (major : ℕ) (second : Bool) (mode : Mode) (i : Bool) (x : Bool)
    → Stays m (memory_row major second mode i x m)
unfolding memory_row
memory_row-stays m major second mode i x = search (either, loaded-stays, stored-stays, compared_in_memory-stays, with_memory-stays, in_memory-stays, index_loaded-stays, byte_loaded-stays, byte_stored-stays, double_loaded-stays, double_stored-stays, address_loaded-stays) depth 20

pub code_loaded-stays : (m : Machine) (segments : List (List ℕ)) (back : Bool) (d : ℕ) → Stays m (code_loaded segments back d m)
unfolding code_loaded
code_loaded-stays m segments back d = after_answer m (code_read segments (displaced back d m.regs.p) m) _ (λ w. pushing-stays m w)
