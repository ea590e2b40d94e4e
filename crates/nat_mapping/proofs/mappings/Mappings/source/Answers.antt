use Rattle.nat_mapping.proofs.Names.{Err, HoldsSame, IfOk, List, MapError, Mapping, NoPort, None, Option, Result, Some, arith, ok_or, subst, sym, ℕ, ◌↔◌, ◌∙◌}
use Rattle.nat_mapping.proofs.Names.{◌≡◌}
use Rattle.nat_mapping.proofs.Represented.{source_is}
use Rattle.nat_mapping.proofs.mappings.Mappings.source.Goals as goal

-- what a result says of the port that is wanted
abbrev Answers : Option ℕ → Result ℕ MapError → Type 0
Answers want r = IfOk r (λ port. want ≡ Some port) × ((r ≡ Err NoPort) ↔ (want ≡ None))

answered : (o want : Option ℕ) → want ≡ o → Answers want (ok_or o NoPort)
answered o want is = grind arith

pub returns-in-Some : goal.returns-in-Some
returns-in-Some c =
    let both = λ (held : List Mapping) (same : HoldsSame held c.args.self.now.held). answered _ _
    (source_is _ _ _ c.self.invariant held c.args.kind c.args.internal c.args.address c.args.range _ (rw (← c.self.view_is) at same)
    (sym c.in-Some.ensures.value)) in
    record { ok = λ held same. (both held same).0; no_port = λ held same. (both held same).1 }

pub returns-in-None : goal.returns-in-None
returns-in-None c =
    let both = λ (held : List Mapping) (same : HoldsSame held c.args.self.now.held). subst (Answers _) (sym c.ok_or.ensures.value) (answered _ _
    (source_is _ _ _ c.self.invariant held c.args.kind c.args.internal c.args.address c.args.range _ (rw (← c.self.view_is) at same)
    (sym c.in-None.ensures.value) ∙ sym c.first_free_port.ensures)) in
    record { ok = λ held same. (both held same).0; no_port = λ held same. (both held same).1 }
