-- What is told of rules that no packet meets, one after another.
use Rattle.std.proofs.Common.{◌≡◌, ◌∙◌, ◌+◌, ℕ, List, [], ◌∷◌, ◌++◌, filter, map, take, get_or, length, ◌<◌, true, false, ap, refl, sym, append-nil}
use Rattle.std.proofs.lemmas.List.{map-append, take_more}
use Rattle.std.proofs.lemmas.List.Elements.{filter-append}
use Rattle.rule_reach.specs.declared.answers.RuleReach.{RuleReach}
use Rattle.rule_reach.specs.declared.answers.Unmet.{Unmet}
use Rattle.rule_reach.specs.Takers.{is_unmet}

pub rule_more : (xs : List RuleReach) (i : ℕ) (d : RuleReach) (us new : List Unmet) (u : Unmet) → i < length xs → is_unmet (get_or xs i d) ≡ true
    → u.rule ≡ (get_or xs i d).rule → new ≡ us ++ u ∷ [] → map (λ u. u.rule) us ≡ map (λ r. r.rule) (filter is_unmet (take i xs))
    → map (λ u. u.rule) new ≡ map (λ r. r.rule) (filter is_unmet (take (i + 1) xs))
rule_more xs i d us new u inside unmet same pushed so_far =
    let x = get_or xs i d in
    let before = filter is_unmet (take i xs) in
    let one : filter is_unmet (x ∷ []) ≡ x ∷ [] = rw unmet refl in
    let filtered = ap (filter is_unmet) (take_more xs i d inside) ∙ filter-append is_unmet (take i xs) (x ∷ []) ∙ ap (λ l. before ++ l) one in
    ap (map (λ u. u.rule)) pushed ∙ map-append (λ u. u.rule) us (u ∷ []) ∙ ap (λ l. l ++ u.rule ∷ []) so_far
    ∙ ap (λ n. map (λ r. r.rule) before ++ n ∷ []) same ∙ sym (map-append (λ r. r.rule) before (x ∷ []))
    ∙ sym (ap (map (λ r. r.rule)) filtered)

pub rule_met : (xs : List RuleReach) (i : ℕ) (d : RuleReach) (us : List Unmet) → i < length xs → is_unmet (get_or xs i d) ≡ false
    → map (λ u. u.rule) us ≡ map (λ r. r.rule) (filter is_unmet (take i xs))
    → map (λ u. u.rule) us ≡ map (λ r. r.rule) (filter is_unmet (take (i + 1) xs))
rule_met xs i d us inside met so_far =
    let x = get_or xs i d in
    let before = filter is_unmet (take i xs) in
    let none : filter is_unmet (x ∷ []) ≡ [] = rw met refl in
    let filtered = ap (filter is_unmet) (take_more xs i d inside) ∙ filter-append is_unmet (take i xs) (x ∷ []) ∙ ap (λ l. before ++ l) none
    ∙ append-nil before in
    so_far ∙ sym (ap (map (λ r. r.rule)) filtered)
