-- A loop over entries.
use Rattle.std.proofs.Common.{◌≡◌, ◌++◌, map, drop}
use Rattle.spl_module_code.specs.spl_modules.Made.{made_of}
use Rattle.spl_unit_codes.proofs.growing.copied.Given as goal

-- the copies so far, and the entries from here on, are as all entries
abbrev pub invariant-loop-entry : goal.invariant-loop-entry
invariant-loop-entry l = map made_of l.copies.items ++ map made_of (drop l.entry-index l.entries) ≡ map made_of l.entries
