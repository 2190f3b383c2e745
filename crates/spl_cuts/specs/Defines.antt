-- DEFINE: each is left out of the list, and each use of its name stands for its tokens.
use Rattle.std.specs.Prelude.{ℕ, ◌≡◌, ◌+◌, Bool, true, false, ◌==◌, nat_eq, List, [], ◌∷◌, ◌++◌, length, Option, None, Some, if◌then◌else◌}
use Rattle.std.specs.List.{list_any}
use lib.Pointwise.{pointwise}
use Prim.Native.String.{String}
use Rattle.spl_tree.specs.Symbols.{reserved_words, is_word}
use Rattle.spl_tree.specs.declared.symbols.Symbol.{Symbol}
use Rattle.spl_cuts.specs.Signs.{Sign, word, mark, Found}

-- a name, and the tokens that it stands for
pub record Define : Type 0 where
  pub name : List ℕ
  pub signs : List Sign

-- how far the DEFINE that is open has come
pub data Phase : Type 0 where
  outside : Phase
  before_name : Phase
  before_equals : List ℕ → Phase
  inside : List ℕ → List Sign → Phase
  behind_hash : Phase

-- behind some tokens: the DEFINEs so far, the one that is open, the tokens of the list, and how many tokens the list and
-- the DEFINEs have together
pub record State : Type 0 where
  pub defines : List Define
  pub phase : Phase
  pub found : List Found
  pub count : ℕ

-- what a name stands for, if it is defined
abbrev pub defined : List ℕ → List Define → Option (List Sign)
defined n [] = None
defined n (d ∷ ds) = if pointwise nat_eq n d.name then Some d.signs else defined n ds

-- what a token stands for, if it is a word that is defined
abbrev pub use_of : List Define → Sign → Option (List Sign)
use_of ds (word n) = defined n ds
use_of ds _ = None

abbrev pub is_reserved : List ℕ → Bool
is_reserved n = list_any (λ (w : String × Symbol). is_word n w.0) reserved_words

abbrev pub is_define : Sign → Bool
is_define (word n) = is_word n "DEFINE"
is_define _ = false

abbrev pub is_mark : ℕ → Sign → Bool
is_mark m (mark n) = n == m
is_mark m _ = false

abbrev pub comma : ℕ
comma = 2

abbrev pub semicolon : ℕ
semicolon = 3

abbrev pub equals : ℕ
equals = 6

abbrev pub hash : ℕ
hash = 15

-- these tokens, at the place and in the segment of a use
abbrev pub at_use : Found → List Sign → List Found
at_use t [] = []
at_use t (x ∷ xs) = record t { what = x } ∷ at_use t xs

-- a name that may be defined: it is no reserved word, and was not defined before
pub record IsNew (s : State) (n : List ℕ) : Type 0 where
  pub free : is_reserved n ≡ false
  pub once : defined n s.defines ≡ None

-- DEFINE name = tokens # , name = tokens # ; one case for each token
pub data Takes (s : State) (t : Found) : State → Type 0 where
  -- outside, a token that is no use stands in the list
  listed : s.phase ≡ outside → is_define t.what ≡ false → use_of s.defines t.what ≡ None
      → Takes s t (record s { found = s.found ++ t ∷ []; count = s.count + 1 })
  used : (xs : List Sign) → s.phase ≡ outside → is_define t.what ≡ false → use_of s.defines t.what ≡ Some xs
      → Takes s t (record s { found = s.found ++ at_use t xs; count = s.count + length xs })
  begun : s.phase ≡ outside → is_define t.what ≡ true → Takes s t (record s { phase = before_name })
  named : (n : List ℕ) → s.phase ≡ before_name → t.what ≡ word n → IsNew s n → Takes s t (record s { phase = before_equals n })
  opened : (n : List ℕ) → s.phase ≡ before_equals n → is_mark equals t.what ≡ true → Takes s t (record s { phase = inside n [] })
  -- inside, a token that is no use is kept
  kept : (n : List ℕ) (ks : List Sign) → s.phase ≡ inside n ks → is_mark hash t.what ≡ false → is_define t.what ≡ false
      → use_of s.defines t.what ≡ None
      → Takes s t (record s { phase = inside n (ks ++ t.what ∷ []); count = s.count + 1 })
  kept_use : (n : List ℕ) (ks xs : List Sign) → s.phase ≡ inside n ks → is_mark hash t.what ≡ false → is_define t.what ≡ false
      → use_of s.defines t.what ≡ Some xs
      → Takes s t (record s { phase = inside n (ks ++ xs); count = s.count + length xs })
  defined_so : (n : List ℕ) (ks : List Sign) → s.phase ≡ inside n ks → is_mark hash t.what ≡ true
      → Takes s t (record s { defines = s.defines ++ record { name = n; signs = ks } ∷ []; phase = behind_hash })
  next : s.phase ≡ behind_hash → is_mark comma t.what ≡ true → Takes s t (record s { phase = before_name })
  ended : s.phase ≡ behind_hash → is_mark semicolon t.what ≡ true → Takes s t (record s { phase = outside })

-- a token that does not continue the DEFINE
pub data Breaks (s : State) (t : Found) : Type 0 where
  no_name : s.phase ≡ before_name → ((n : List ℕ) → t.what ≡ word n → ⊥) → Breaks s t
  reserved : (n : List ℕ) → s.phase ≡ before_name → t.what ≡ word n → is_reserved n ≡ true → Breaks s t
  defined_before : (n : List ℕ) (xs : List Sign) → s.phase ≡ before_name → t.what ≡ word n → defined n s.defines ≡ Some xs → Breaks s t
  no_equals : (n : List ℕ) → s.phase ≡ before_equals n → is_mark equals t.what ≡ false → Breaks s t
  -- a DEFINE inside
  nested : (n : List ℕ) (ks : List Sign) → s.phase ≡ inside n ks → is_define t.what ≡ true → Breaks s t
  no_next : s.phase ≡ behind_hash → is_mark comma t.what ≡ false → is_mark semicolon t.what ≡ false → Breaks s t

abbrev pub is_outside : Phase → Bool
is_outside outside = true
is_outside _ = false
