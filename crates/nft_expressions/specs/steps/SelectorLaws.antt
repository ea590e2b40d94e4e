-- Selectors: their parsers give exactly what they spell.
use Rattle.std.proofs.Common.{◌≡◌, List, Some, inl, inr, refl}
use Rattle.std.specs.Prelude.{codes}
use Rattle.list_laws.specs.Options.{option_cases, IfSome_at}
use Rattle.nft_lexer.specs.declared.token.Punctuator.TheVariants.{Dot}
use Rattle.nft_lexer.specs.Terminal.{Terminal}
use Rattle.nft_tree.specs.declared.selector.Selector.{Selector}
use Rattle.token_reader.specs.Grammar.{punctuation, ◌▹◌}
use Rattle.token_reader.specs.steps.Lawful.{Lawful, lawful_keyword, lawful_punctuation, lawful_one_of, lawful_after}
use Rattle.token_reader.specs.steps.Lawful.{lawful_either, lawful_separated, separated_only}
use Rattle.nft_expressions.specs.Selectors.{EndsSelectors, in_ip, in_meta, in_tcp, in_udp, in_th, in_icmp, in_ct, without_meta, selector, selectors}

pub lawful_selector : Lawful selector
unfolding selector
lawful_selector =
    lawful_either (lawful_after (lawful_keyword (codes "ip")) (lawful_one_of in_ip refl) refl)
    (lawful_either (lawful_after (lawful_keyword (codes "meta")) (lawful_one_of in_meta refl) refl)
    (lawful_either (lawful_after (lawful_keyword (codes "tcp")) (lawful_one_of in_tcp refl) refl)
    (lawful_either (lawful_after (lawful_keyword (codes "udp")) (lawful_one_of in_udp refl) refl)
    (lawful_either (lawful_after (lawful_keyword (codes "th")) (lawful_one_of in_th refl) refl)
    (lawful_either (lawful_after (lawful_keyword (codes "icmp")) (lawful_one_of in_icmp refl) refl)
    (lawful_either (lawful_after (lawful_keyword (codes "ct")) (lawful_one_of in_ct refl) refl)
    (lawful_one_of without_meta refl) refl refl) refl refl) refl refl) refl refl) refl refl) refl refl)
    refl refl

pub lawful_selectors : Lawful selectors
unfolding selectors selector
lawful_selectors = lawful_separated (lawful_punctuation Dot) lawful_selector refl refl refl refl

-- All selectors of a concatenation are read.
pub selectors_only : (ss : List Selector) (from to : List Terminal) → selectors.spells ss from to
    → EndsSelectors to → selectors.read from ≡ Some (ss, to)
unfolding selectors selector
selectors_only ss from to s ends =
    let next = lawful_after (lawful_punctuation Dot) lawful_selector refl in
    separated_only (punctuation Dot) selector (lawful_punctuation Dot) lawful_selector refl refl next refl ss
    from to s refl
    (elim (option_cases ((punctuation Dot ▹ selector).read to)) [
      | inl e ↦ e
      | inr x ↦ absurd (ends x.0.0 x.0.1
          (IfSome_at ((punctuation Dot ▹ selector).read to)
          (λ y. (punctuation Dot ▹ selector).spells y.0 to y.1) x.0 x.1 (next.found to)))
    ])
