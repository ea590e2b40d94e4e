-- Lines of a set, field by field.
use Rattle.std.proofs.Common.{◌≡◌, ◌∙◌, ◌+◌, ◌<◌, ◌≤◌, ◌&&◌, ◌++◌, ◌∷◌, [], ℕ}
use Rattle.std.specs.declared.alloc.Global.{Global}
use Rattle.std.proofs.Common.{List, Vec, length, Bool, true, false, cond, refl, ap, sym, subst, arith, get_or, take}
use Rattle.std.specs.List.{list_all}
use Rattle.std.proofs.lemmas.List.Elements.{All-get_or}
use Rattle.std.proofs.lemmas.List.Sums.{sum_by_more, sum_by_push}
use Rattle.packet_sets.specs.Sets.{DiagramsView, holds}
use Rattle.packet_sets.specs.declared.fields.Field.{Field}
use Rattle.packet_sets.specs.declared.packet_set.PacketSet.{PacketSet}
use Rattle.set_lines.specs.Lines.{has_number, lies_in, number_in, passed, passes}
use Rattle.set_lines.specs.steps.Parts.{AreLines, AreWays, IsWay, ways_with}
use Rattle.set_lines.specs.declared.line.Numbers.{Numbers}
use Rattle.set_lines.specs.declared.line.Line.{Line}
use Rattle.set_lines.specs.declared.line.Lines.{Lines}
use Rattle.set_lines.specs.declared.ways.Way.{Way}

-- ---- way by way

cond-zero : (b : Bool) (k : ℕ) → k ≡ 0 → 0 ≡ cond b k 0
cond-zero true k e = sym e
cond-zero false k e = refl

pub lines_first : (d : DiagramsView) (set : PacketSet) (field : Field) (ways : List Way) (found : Lines)
    → ((f : ℕ → Bool) → passed found.lines.items f ≡ 0) → AreLines d set (λ packet. ways_with (take 0 ways) (number_in field packet)) found
unfolding ways_with
lines_first d set field ways found nil = record {
  most = λ f. let z = nil f in omega arith;
  whole = λ m f. nil f ∙ cond-zero (holds d set f) (ways_with (take 0 ways) (number_in field f)) refl;
}

-- what a way adds to what is passed
adds-true : (here : Bool) (old more times : ℕ) → old ≤ cond here times 0 → more ≤ cond here 1 0 → old + more ≤ cond here (times + 1) 0
adds-true true old more times o m = omega arith
adds-true false old more times o m = omega arith

adds-none : (here : Bool) (old times : ℕ) → old ≤ cond here times 0 → old + 0 ≤ cond here (times + 0) 0
adds-none true old times o = omega arith
adds-none false old times o = omega arith

adds-most : (here there lie : Bool) (old more times : ℕ) → (lie ≡ true → here ≡ there) → old ≤ cond here times 0 → more ≤ cond there 1 0
    → old + cond lie more 0 ≤ cond here (times + cond lie 1 0) 0
adds-most here there true old more times same o m = let e = same refl in let m' = subst (λ v. more ≤ cond v 1 0) (sym e) m in adds-true here old more times o m'
adds-most here there false old more times same o m = adds-none here old times o

whole-true : (here : Bool) (old more times : ℕ) → old ≡ cond here times 0 → more ≡ cond here 1 0 → old + more ≡ cond here (times + 1) 0
whole-true true old more times o m = omega arith
whole-true false old more times o m = omega arith

whole-none : (here : Bool) (old times : ℕ) → old ≡ cond here times 0 → old + 0 ≡ cond here (times + 0) 0
whole-none true old times o = omega arith
whole-none false old times o = omega arith

adds-whole : (here there lie : Bool) (old more times : ℕ) → (lie ≡ true → here ≡ there) → old ≡ cond here times 0 → more ≡ cond there 1 0
    → old + cond lie more 0 ≡ cond here (times + cond lie 1 0) 0
adds-whole here there true old more times same o m = let m' = subst (λ v. more ≡ cond v 1 0) (sym (same refl)) m in whole-true here old more times o m'
adds-whole here there false old more times same o m = whole-none here old times o

ways-step : (ways : List Way) (i : ℕ) (way : Way) (n : ℕ) → i < length ways → way ≡ get_or ways i way
    → ways_with (take (i + 1) ways) n ≡ ways_with (take i ways) n + cond (lies_in way.ranges.items n) 1 0
unfolding ways_with
ways-step ways i way n here at =
    sum_by_more (λ (w : Way). cond (lies_in w.ranges.items n) 1 0) ways i way here
    ∙ ap (λ (w : Way). ways_with (take i ways) n + cond (lies_in w.ranges.items n) 1 0) (sym at)

pub lines_more : (d : DiagramsView) (set : PacketSet) (field : Field) (ways : List Way) (i : ℕ) (way : Way) (ranges : List Numbers) (old more new : Lines)
    → i < length ways → way ≡ get_or ways i way → AreWays d set field ways → ranges ≡ way.ranges.items
    → AreLines d set (λ packet. ways_with (take i ways) (number_in field packet)) old → AreLines d way.rest (λ packet. 1) more
    → ((f : ℕ → Bool) → passed new.lines.items f
    ≡ passed old.lines.items f + cond (lies_in ranges (number_in field f)) (passed more.lines.items f) 0)
    → (new.more ≡ 0 → (old.more ≡ 0) × (more.more ≡ 0)) → AreLines d set (λ packet. ways_with (take (i + 1) ways) (number_in field packet)) new
lines_more d set field ways i way ranges old more new here at are same olds mores sums counts =
    let H : (ℕ → Bool) → Bool = λ f. holds d set f in
    let is : IsWay d set field way = subst (λ w. IsWay d set field w) (sym at) (All-get_or (IsWay d set field) ways i way here are.each) in
    let lie : (ℕ → Bool) → Bool = λ f. lies_in way.ranges.items (number_in field f) in
    let sum : (f : ℕ → Bool) → passed new.lines.items f ≡ passed old.lines.items f + cond (lie f) (passed more.lines.items f) 0 =
    λ f. sums f ∙ ap (λ xs. passed old.lines.items f + cond (lies_in xs (number_in field f)) (passed more.lines.items f) 0) same in
    let step : (f : ℕ → Bool) → ways_with (take (i + 1) ways) (number_in field f) ≡ ways_with (take i ways) (number_in field f) + cond (lie f) 1 0 =
    λ f. ways-step ways i way (number_in field f) here at in
    record {
      most = λ f.
          let add = adds-most (H f) (holds d way.rest f) (lie f) (passed old.lines.items f) (passed more.lines.items f)
          (ways_with (take i ways) (number_in field f)) (is.same f) (olds.most f) (mores.most f) in
          subst (λ k. passed new.lines.items f ≤ cond (H f) k 0) (sym (step f))
          (subst (λ k. k ≤ cond (H f) (ways_with (take i ways) (number_in field f) + cond (lie f) 1 0) 0) (sym (sum f)) add);
      whole = λ m f.
          let z = counts m in
          let add = adds-whole (H f) (holds d way.rest f) (lie f) (passed old.lines.items f) (passed more.lines.items f)
          (ways_with (take i ways) (number_in field f)) (is.same f) (olds.whole z.0 f) (mores.whole z.1 f) in
          sum f ∙ add ∙ ap (λ k. cond (H f) k 0) (sym (step f));
    }

pub lines_last : (d : DiagramsView) (set : PacketSet) (field : Field) (ways : List Way) (found : Lines) → AreWays d set field ways
    → AreLines d set (λ packet. ways_with ways (number_in field packet)) found → AreLines d set (λ packet. 1) found
lines_last d set field ways found are lines = record {
  most = λ f. subst (λ k. passed found.lines.items f ≤ cond (holds d set f) k 0) (are.once f) (lines.most f);
  whole = λ m f. lines.whole m f ∙ ap (λ k. cond (holds d set f) k 0) (are.once f);
}

-- ---- lines under numbers of a field

-- a line more, under numbers that the packet has or hasn't
under-more : (lie pass : Bool) (a : ℕ) → cond lie a 0 + cond (lie && pass) 1 0 ≡ cond lie (a + cond pass 1 0) 0
under-more true pass a = refl
under-more false pass a = omega arith

pub passed_first : (lie : Bool) (first : ℕ) (f : ℕ → Bool) → first ≡ first + cond lie (passed [] f) 0
unfolding passed
passed_first true first f = omega arith
passed_first false first f = omega arith

pub passed_under : (lie : Bool) (lines yielded items : List Line) (first : ℕ) (line new : Line) (f : ℕ → Bool) → items ≡ lines ++ new ∷ []
    → passed lines f ≡ first + cond lie (passed yielded f) 0 → passes new f ≡ (lie && passes line f)
    → passed items f ≡ first + cond lie (passed (yielded ++ line ∷ []) f) 0
unfolding passed
passed_under lie lines yielded items first line new f joined old e =
    let F : Line → ℕ = λ l. cond (passes l f) 1 0 in
    let a = sum_by_push F lines new in
    let b = sum_by_push F yielded line in
    let c = under-more lie (passes line f) (passed yielded f) in
    let n : F new ≡ cond (lie && passes line f) 1 0 = ap (λ v. cond v 1 0) e in
    let j : passed items f ≡ passed (lines ++ new ∷ []) f = ap (λ xs. passed xs f) joined in
    let g : cond lie (passed (yielded ++ line ∷ []) f) 0 ≡ cond lie (passed yielded f + F line) 0 = ap (λ k. cond lie k 0) b in
    omega arith

pub passed_new : (items : List Line) → items ≡ [] → (f : ℕ → Bool) → passed items f ≡ 0
unfolding passed
passed_new items e f = rw e refl

pub passed_one : (items : List Line) (line : Line) → items ≡ line ∷ [] → line.fields.items ≡ [] → (f : ℕ → Bool) → passed items f + 0 ≡ 1
unfolding passed passes
passed_one items line e none f = rw e (rw none refl)

pub passes_under : (line new : Line) (field : Field) (ranges : Vec Numbers Global) (given : List Numbers) → ranges.items ≡ given
    → new.fields.items ≡ record { field = field; ranges = ranges } ∷ line.fields.items
    → (f : ℕ → Bool) → passes new f ≡ (lies_in given (number_in field f) && passes line f)
unfolding passes
passes_under line new field ranges given same e f = rw e (ap (λ xs. lies_in xs (number_in field f) && list_all (λ n. has_number n f) line.fields.items) same)
