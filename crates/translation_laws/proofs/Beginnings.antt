-- Records extend a history by the first ones, and then by the rest.
use Rattle.std.proofs.Common.{List, [], ◌∷◌, ◌++◌, refl, subst}
use Rattle.pcap_io.specs.Pcap.{Recorded}
use Rattle.history.specs.Setup.{Setup}
use Rattle.history.specs.History.{Entry}
use Rattle.stepping.specs.Next.{IsHistoryOf}
use Rattle.translation_laws.specs.Laws.{HistoryLaws}
use Rattle.translation_laws.specs.Histories.{IsHistory}
use Rattle.translation_laws.specs.Lawful.{AtEachPrefix}

module _ (setup : Setup) where
  is_history_between : (first rest : List Recorded) (before after : List Entry)
      → IsHistoryOf setup before (first ++ rest) after
      → (begun : List Entry) × IsHistoryOf setup before first begun × IsHistoryOf setup begun rest after
  is_history_between [] rest before after g = (before, refl, g)
  is_history_between (r ∷ first) rest before after g =
      let more = is_history_between first rest (g.0 ∷ before) after g.2 in
      (more.0, (g.0, g.1, more.1), more.2)

  pub at_each_beginning : ((history : List Entry) → IsHistory setup history → HistoryLaws setup history)
      → (records : List Recorded) (history : List Entry) → IsHistoryOf setup [] records history
      → AtEachPrefix setup records history
  at_each_beginning laws records history g first rest e =
      let parts = is_history_between first rest [] history
      (subst (λ (rs : List Recorded). IsHistoryOf setup [] rs history) e g) in
      (parts.0, parts.1, parts.2, laws parts.0 (record { records = first; is_history = parts.1 }))
