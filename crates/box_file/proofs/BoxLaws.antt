-- A text describes one box or has one fault.
use Rattle.std.proofs.Common.{arith}
use Rattle.box_file.proofs.Names.{HasBoxFault, IsBox, Line, List, None, Option, PlantTree, Reads, Some, ap, false, idle_for, idles_in, inl, inr}
use Rattle.box_file.proofs.Names.{is_out_of_range, least_fault, lines_in, list_any, plant_of, refl, sym, ℕ, ◌∙◌, ◌≡◌, ◌⊎◌}
use Rattle.std.proofs.lemmas.Option.{none-some, same_Some}
use Rattle.box_file.specs.declared.fault.BoxFault.{BoxFault}
use Rattle.box_file.specs.declared.fault.BoxFault.TheVariants.{Form}
use Rattle.box_file.proofs.IdleLaws.{same_limits, limits_of, are_limits}
use Rattle.box_file.proofs.LineLaws.{lines_found, lines_only}

-- a text is parsed in one way only
pub one_reading_of_box : (text : List ℕ) (ls ms : List Line) → Reads text ls → Reads text ms → ls ≡ ms
one_reading_of_box text ls ms r s = same_Some ls ms (sym (lines_only text ls r) ∙ lines_only text ms s)

pub one_plant : (text : List ℕ) (p q : PlantTree) → IsBox text p → IsBox text q → p ≡ q
one_plant text p q b c =
    let same = one_reading_of_box text b.lines c.lines b.read c.read in
    let idle : p.idle ≡ q.idle =
    same_limits p.idle q.idle (λ k. b.limits k ∙ ap (λ ls. idle_for (idles_in ls) k) same ∙ sym (c.limits k)) in
    b.meant ∙ ap (λ ls. plant_of ls p.idle) same ∙ ap (plant_of c.lines) idle ∙ sym c.meant

pub box_or_fault : (text : List ℕ) (p : PlantTree) (fault : BoxFault) → IsBox text p → HasBoxFault text fault → ⊥
box_or_fault text p fault b f = grind (arith, one_reading_of_box text b.lines, b.read, none-some, b.faultless)

pub one_fault : (text : List ℕ) (fault other : BoxFault) → HasBoxFault text fault → HasBoxFault text other → fault ≡ other
one_fault text fault other f g = grind (arith, one_reading_of_box, same_Some)

-- the idle timeouts of a faultless text are in range
pub idle_right : (text : List ℕ) (ls : List Line) → least_fault text ls ≡ None → list_any is_out_of_range (idles_in ls) ≡ false
idle_right text ls e = grind arith

pub none_read : (text : List ℕ) (ls : List Line) → lines_in text ≡ None → Reads text ls → ⊥
none_read text ls e r = none-some ls (sym e ∙ lines_only text ls r)

abbrev Answer : List ℕ → Type 0
Answer text = ((network : PlantTree) × IsBox text network) ⊎ ((fault : BoxFault) × HasBoxFault text fault)

judged : (text : List ℕ) (ls : List Line) → Reads text ls → (o : Option BoxFault) → least_fault text ls ≡ o → Answer text
judged text ls r None e =
    let right = idle_right text ls e in
    let idle = limits_of (idles_in ls) right in
    inl (plant_of ls idle, record { lines = ls; read = r; faultless = e; limits = are_limits (idles_in ls) right; meant = refl })
judged text ls r (Some fault) e = inr (fault, inr (ls, r, e))

read_or_not : (text : List ℕ) (o : Option (List Line)) → lines_in text ≡ o → Answer text
read_or_not text None e = inr (Form, inl (λ ls r. none_read text ls e r, refl))
read_or_not text (Some ls) e = judged text ls (lines_found text ls e) (least_fault text ls) refl

pub some_answer : (text : List ℕ) → Answer text
some_answer text = read_or_not text (lines_in text) refl
