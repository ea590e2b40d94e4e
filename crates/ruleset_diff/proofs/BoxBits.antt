-- The facts that any bits write are those of the box.
use Rattle.std.proofs.Common.{◌==◌, ℕ, List, Bool, true, false, cond, refl, Some, None, IfSome}
use Rattle.ip_headers.specs.declared.transport.Transport.{Transport}
use Rattle.ip_headers.specs.declared.transport.Transport.TheVariants.{Tcp, Udp, Icmp, Other}
use Rattle.ip_headers.specs.declared.tuple.Direction.TheVariants as directions
use Rattle.rule_meaning.specs.declared.facts.Interface.{Interface}
use Rattle.rule_meaning.specs.declared.facts.CtFacts.{CtFacts}
use Rattle.rule_meaning.specs.declared.facts.CtFacts.TheVariants as ct
use Rattle.fact_sets.specs.Boxes.{IsCt, IsInterface, IsOfBox, IsTransport, NOTHING}
use Rattle.fact_sets.specs.Facts.{CT_MARK, DESTINATION_PORT, FLAGS, HAS_OUTPUT, ICMP_TYPE, INPUT, OUTPUT, SOURCE_PORT, TRACKING, TRANSPORT}
use Rattle.fact_sets.specs.Facts.{ct_at, facts_of, interface_at, number_in, state_at, transport_at}
use Rattle.fact_sets.proofs.FieldNumbers.{value_less}

either : {X : Type 0} (P : X → Type 0) (b : Bool) (x y : X) → P x → P y → P (cond b x y)
either P true x y hx hy = hx
either P false x y hx hy = hy

transport_fits : (n : ℕ) (p : ℕ → Bool) → IsTransport (transport_at n p)
transport_fits n p =
    let tcp : Transport = Tcp (number_in SOURCE_PORT p) (number_in DESTINATION_PORT p) (number_in FLAGS p) in
    let udp : Transport = Udp (number_in SOURCE_PORT p) (number_in DESTINATION_PORT p) in
    let icmp : Transport = Icmp (number_in ICMP_TYPE p) in
    either IsTransport (n == 1) tcp (cond (n == 2) udp (cond (n == 3) icmp Other)) (value_less 16 110 p, value_less 16 94 p, value_less 8 126 p)
    (either IsTransport (n == 2) udp (cond (n == 3) icmp Other) (value_less 16 110 p, value_less 16 94 p)
    (either IsTransport (n == 3) icmp Other (value_less 8 134 p) tt))

ct_fits : (n : ℕ) (p : ℕ → Bool) → IsCt (ct_at NOTHING n p)
ct_fits n p =
    let known : CtFacts = ct.Known (record {
      state = state_at n;
      direction = cond (p 26) directions.Reply directions.Original;
      mark = number_in CT_MARK p;
      seen_reply = p 29;
      source_translated = p 28;
      destination_translated = p 27;
    }) in
    either IsCt (n == 0) ct.NotLookedUp (cond (n == 1) ct.Notrack (cond (n == 2) ct.Untracked (cond (n == 3) ct.Invalid known))) tt
    (either IsCt (n == 1) ct.Notrack (cond (n == 2) ct.Untracked (cond (n == 3) ct.Invalid known)) tt
    (either IsCt (n == 2) ct.Untracked (cond (n == 3) ct.Invalid known) tt (either IsCt (n == 3) ct.Invalid known tt (value_less 32 198 p))))

pub bits_of_box : (interfaces : List Interface) (p : ℕ → Bool) → IsOfBox interfaces (facts_of interfaces NOTHING p)
unfolding facts_of
bits_of_box interfaces p = record {
  packet = record {
    source = value_less 32 62 p;
    destination = value_less 32 30 p;
    protocol = value_less 8 0 p;
    ttl = value_less 8 158 p;
    length = value_less 16 142 p;
    transport = transport_fits (number_in TRANSPORT p) p;
  };
  input = (number_in INPUT p, value_less 6 10 p, refl);
  output = elim (p HAS_OUTPUT) as (λ v. IfSome (cond v (Some (interface_at interfaces (number_in OUTPUT p))) None) (IsInterface interfaces)) [
    | true ↦ (number_in OUTPUT p, value_less 6 17 p, refl)
    | false ↦ tt
  ];
  mark = value_less 32 166 p;
  ct = ct_fits (number_in TRACKING p) p;
}
