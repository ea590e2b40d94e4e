-- NAT of a packet that begins no connection: its state stays, and only its addresses and ports change.
use Rattle.stepping.proofs.Names.{Accepted, Continue, CtInfo, DestinationNat, Event, Facts, List, Mapping, New, NewConnection, Setup, SourceNat}
use Rattle.stepping.proofs.Names.{facts_after_destination_nat, facts_after_source_nat, refl, ◌≡◌}

module _ (setup : Setup) (held : List Mapping) (f : Facts) (es : List Event) where
  pub destination_kept : (info : CtInfo) → ((n : NewConnection) → info ≡ New n → ⊥)
      → DestinationNat setup held (record { facts = f; info = info; events = es })
      (Continue (record { facts = facts_after_destination_nat info f; info = info; events = es }))
  destination_kept (New n) old = absurd (old n refl)
  destination_kept info old = record { end = record { verdict = Accepted; facts = f; events = es }; ran = refl; is = refl }

  pub source_kept : (info : CtInfo) → ((n : NewConnection) → info ≡ New n → ⊥)
      → SourceNat setup held (record { facts = f; info = info; events = es })
      (Continue (record { facts = facts_after_source_nat info f; info = info; events = es }))
  source_kept (New n) old = absurd (old n refl)
  source_kept info old = record { end = record { verdict = Accepted; facts = f; events = es }; ran = refl; is = refl }
