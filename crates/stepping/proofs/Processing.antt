-- A packet's path, by the answers of the calls, and the connections held after it.
use Rattle.stepping.proofs.Names.{[], Arrival, Belonging, Bool, CanConfirm, Cause, Confirms, ConnId, ConntrackEntry, Continue, CtFacts, CtInfo, Drop, Err, Fits}
use Rattle.stepping.proofs.Names.{Flags, Follows, List, Mapping, New, NewConnection, None, Notrack, Ok, Option, PathState, Result, Some, StepResult}
use Rattle.stepping.proofs.Names.{Tracked, TrackedConnection, Tuple, Unconfirmed, after_end, after_packet, ap, arith, arrival_of, begins, begun_in}
use Rattle.stepping.proofs.Names.{belonging_by_tuple, belonging_of, change_of_packet, confirmation_by, confirmation_of, confirmed_in, ct_info_by}
use Rattle.stepping.proofs.Names.{ct_info_by_tuple, entry_in, entry_of, error_belonging, error_ct_info, false, final_state, flags_in, inner_tuple_of}
use Rattle.stepping.proofs.Names.{is_creation, looked_up_info, lookup_tuple_of, mark_in, others_beside, others_in, refl, refusal}
use Rattle.stepping.proofs.Names.{reply_to, step_result, sym, transport_of, tuple_of, unless_refused, untranslated, ℕ, ◌∙◌, ◌≡◌}
use Rattle.connection_table.specs.Table.{IsConfirmable}

-- ---- a packet whose connection can't begin

pub confirms_refused : {now : ℕ} {flags : Flags} {entry : ConnId} {mark : ℕ} {old : List ConntrackEntry} {d : NewConnection} {cause : Cause}
    → refusal (reply_to d) old ≡ Some cause → Confirms now flags entry (New d) mark old old (Err cause)
confirms_refused is = record {
  id = record { 0 = 0 };
  step = λ s. sym (ap (λ (refused : Option Cause). unless_refused refused s) is);
  held = refl;
  begun = refl;
}

-- ---- a packet that refreshes and begins no connection

pub idle_confirms : {now : ℕ} {flags : Flags} {entry : ConnId} {mark : ℕ} {old : List ConntrackEntry} (info : CtInfo)
    → ((t : TrackedConnection) → info ≡ Tracked t → ⊥) → ((n : NewConnection) → info ≡ New n → ⊥)
    → Confirms now flags entry info mark old old (Ok false)
idle_confirms (Tracked t) not_tracked not_new = absurd (not_tracked t refl)
idle_confirms (New n) not_tracked not_new = absurd (not_new n refl)
idle_confirms info not_tracked not_new = record { id = record { 0 = 0 }; step = λ s. refl; held = refl; begun = refl }

-- ---- a packet that was looked up can be confirmed

pub still_open : (t : Tuple) (b : Belonging) (held : List ConntrackEntry) (other : ConnId) → IsConfirmable t b held
    → CanConfirm (entry_of other b) (untranslated (ct_info_by t b)) held
still_open t b held other can = grind arith

-- an ICMP error refreshes and begins no connection, and needs no mapping
pub error_kept : (entry : ConnId) (b : Belonging) (held : List ConntrackEntry) (mappings : List Mapping)
    → (confirmation_by (error_ct_info b) 0 ≡ Unconfirmed) × CanConfirm entry (untranslated (error_ct_info b)) held
    × Fits (error_ct_info b) mappings
error_kept entry b held mappings = grind arith

-- ---- the connections held after a confirmation, by what the packet belongs to

-- a packet that refreshes and begins no connection, as an ICMP error
idle_stays : (id : ConnId) (flags : Flags) (now : ℕ) (entry : ConnId) (before : CtInfo) (r : StepResult) (held : List ConntrackEntry)
    → confirmation_by before 0 ≡ Unconfirmed → untranslated (final_state r).info ≡ untranslated before
    → (confirmed_in id flags now entry (final_state r).info (confirmation_of r) held ≡ held)
    × (begins (final_state r).info (confirmation_of r) ≡ false)
idle_stays id flags now entry before r held idle same = grind arith

-- a confirmation beside the other connections is one among all that were held, and the entry says whether one began
agreed : (id other : ConnId) (a : Arrival) (old : List ConntrackEntry) (b : Belonging) (r : StepResult)
    → untranslated (final_state r).info ≡ untranslated (ct_info_by a.tuple b)
    → (confirmed_in id a.flags a.moment (entry_of other b) (final_state r).info (confirmation_of r) (after_end b old)
    ≡ after_packet b id a (confirmation_of r) old)
    × (begins (final_state r).info (confirmation_of r) ≡ is_creation (change_of_packet b a (confirmation_of r)))
agreed id other a old b r same = grind arith

module _ (other : ConnId) (p : List ℕ) (old : List ConntrackEntry) where
  -- what the state of a packet that was looked up says: its tuple, its entry, and the other connections
  abbrev WasLookedUp : CtInfo → Type 0
  WasLookedUp info = (lookup_tuple_of info p ≡ tuple_of p) × (entry_in other info old p ≡ entry_of other (belonging_of old p))
      × (others_beside info old p ≡ others_in old p)

  by_error : (b : Belonging) → WasLookedUp (error_ct_info b)
  by_error b = grind arith

  by_tuple : (t : Tuple) (b : Belonging) → WasLookedUp (ct_info_by t b)
  by_tuple t b = grind arith

  looked_up : (key : Option Tuple) → WasLookedUp (ct_info_by_tuple old p key)
  looked_up None = by_error (error_belonging old (inner_tuple_of p))
  looked_up (Some t) = by_tuple t (belonging_of old p)

  not_exempted : (ct : CtFacts) → (ct ≡ Notrack → ⊥) → looked_up_info ct old p ≡ ct_info_by_tuple old p (tuple_of p)
  not_exempted Notrack not = absurd (not refl)
  not_exempted ct not = refl

  pub found : (ct : CtFacts) (info : CtInfo) (key : Option Tuple) → (ct ≡ Notrack → ⊥) → tuple_of p ≡ key
      → info ≡ ct_info_by_tuple old p key → (info ≡ looked_up_info ct old p)
      × (entry_of other (belonging_by_tuple old (flags_in (transport_of p)) key) ≡ entry_in other info old p)
      × (after_end (belonging_by_tuple old (flags_in (transport_of p)) key) old ≡ others_beside info old p)
  found ct info key not own is =
      let known : WasLookedUp info = rw is (looked_up key) in (
        is ∙ ap (ct_info_by_tuple old p) (sym own) ∙ sym (not_exempted ct not),
        ap (λ (key : Option Tuple). entry_of other (belonging_by_tuple old (flags_in (transport_of p)) key)) (sym own) ∙ sym known.1,
        ap (λ (key : Option Tuple). after_end (belonging_by_tuple old (flags_in (transport_of p)) key) old) (sym own) ∙ sym known.2,
      )

  tuple_kept : (info before : CtInfo) → untranslated info ≡ untranslated before → lookup_tuple_of info p ≡ lookup_tuple_of before p
  tuple_kept info before same = grind arith

  module _ (now : ℕ) (id : ConnId) (r : StepResult) (begun : Bool) (new : List ConntrackEntry) (before : CtInfo)
      (same : untranslated (final_state r).info ≡ untranslated before)
      (held : new ≡ confirmed_in id (flags_in (transport_of p)) now (entry_in other before old p) (final_state r).info
      (confirmation_of r) (others_beside before old p))
      (begun_is : begun ≡ begins (final_state r).info (confirmation_of r)) where
    follows_idle : confirmation_by before 0 ≡ Unconfirmed → lookup_tuple_of before p ≡ None → others_beside before old p ≡ old
        → Follows now p r begun old new
    follows_idle idle none others =
        let stays = idle_stays id (flags_in (transport_of p)) now (entry_in other before old p) before r (others_beside before old p) idle same in
        let key = tuple_kept (final_state r).info before same in
        record { id = id; held = grind (arith, stays, key); begins = grind (arith, stays, key) }

    follows_key : (key : Option Tuple) → tuple_of p ≡ key → before ≡ ct_info_by_tuple old p key → Follows now p r begun old new
    follows_key None own is =
        let known = looked_up None in
        follows_idle (rw is (error_kept other _ [] []).0) (grind (arith, known)) (grind (arith, known))
    follows_key (Some t) own is =
        let known = looked_up (Some t) in
        let key = tuple_kept (final_state r).info before same in
        let agree = agreed id other (arrival_of now p t) old (belonging_of old p) r (same ∙ ap untranslated is) in
        record { id = id; held = grind (arith, known, key, agree); begins = grind (arith, known, key, agree) }

    follows : (ct : CtFacts) → before ≡ looked_up_info ct old p → Follows now p r begun old new
    follows Notrack is = follows_idle (rw is refl) (rw is refl) (rw is refl)
    follows ct is = follows_key (tuple_of p) refl is

-- ---- the ends of a path

module _ (other : ConnId) (p : List ℕ) (old : List ConntrackEntry) (now : ℕ) (ct : CtFacts) (new : List ConntrackEntry) where
  abbrev before : CtInfo
  before = looked_up_info ct old p

  -- a dropped packet removes at most a closing connection; before the look-up nothing changes
  pub dropped_follows : (cause : Cause) (s : PathState) → untranslated s.info ≡ untranslated before
      → new ≡ others_beside before old p → Follows now p (Drop cause s) false old new
  dropped_follows cause s same held =
      follows other p old now (record { 0 = 0 }) (Drop cause s) false new before same (grind (arith, held)) (grind arith) ct refl

  pub confirmed_follows : (answer : Result Bool Cause) (s : PathState) → untranslated s.info ≡ untranslated before
      → Confirms now (flags_in (transport_of p)) (entry_in other before old p) s.info (mark_in s.facts.ct)
      (others_beside before old p) new answer → Follows now p (step_result answer s) (begun_in answer) old new
  confirmed_follows (Ok begun) s same by =
      follows other p old now by.id (Continue s) begun new before same by.held by.begun ct refl
  confirmed_follows (Err cause) s same by =
      follows other p old now by.id (Drop cause s) false new before same by.held by.begun ct refl
