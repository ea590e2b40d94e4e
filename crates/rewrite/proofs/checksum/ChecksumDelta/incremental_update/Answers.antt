use Rattle.std.proofs.Common.{ℕ, ◌≡◌, ◌+◌, ◌-◌, ◌*◌, ◌/◌, ◌%◌, ◌≤◌, ap, arith, sym, ◌∙◌}
use Rattle.std.proofs.Math.Nat.{add-mod_right, add-mul-mod_self_right}
use Rattle.rewrite.proofs.checksum.ChecksumDelta.incremental_update.Goals as goal

-- both differ by a multiple of 65535
more : (a new : ℕ) → new ≤ 4294967295 → a + (4294967295 - new) + 65535 ≡ a + (65535 - new % 65535) + (65537 - new / 65535) * 65535
more a new small = omega arith

one_rest : (a new : ℕ) → new ≤ 4294967295 → (a + (4294967295 - new)) % 65535 ≡ (a + (65535 - new % 65535)) % 65535
one_rest a new small =
    sym (add-mod_right (a + (4294967295 - new)) 65535) ∙ ap (λ n. n % 65535) (more a new small)
    ∙ add-mul-mod_self_right (a + (65535 - new % 65535)) (65537 - new / 65535) 65535

pub returns : goal.returns
returns c = one_rest _ c.args.self.new (omega arith)
