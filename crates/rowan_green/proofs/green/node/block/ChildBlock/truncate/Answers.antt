use Rattle.std.proofs.Common.{◌≡◌, ℕ, ◌≤◌, List, [], ◌∷◌, ◌++◌, take, length, sym, ◌∙◌, ap, arith}
use Rattle.std.proofs.lemmas.List.{take-append-le, take_all}
use Rattle.rowan_green.proofs.green.node.block.ChildBlock.truncate.Goals as goal

-- what stands before the place is not the last, which left
kept : {X : Type 0} (place : ℕ) (short long : List X) (x : X) → long ≡ short ++ x ∷ []
    → place ≤ length short → take place short ≡ take place long
kept place short long x e h = sym (take-append-le place short (x ∷ []) h) ∙ ap (take place) (sym e)

pub loop-self-preserved : goal.loop-self-preserved
loop-self-preserved c =
    let e = c.take_last.ensures in
    let i = c.loop-self.invariant in
    record {
      same = kept c.args.place c.take_last.new.self.items c.loop-self.self.block.list.items
          c.take_last.result e.items
          (omega (arith, c.loop-self-test.true, c.len.ensures, e.len, c.take_last.new.self.ok.0))
          ∙ i.same;
      fewer = omega (arith, i.fewer, e.len);
      room = e.capacity ∙ i.room;
    }

pub returns-clause-items : goal.returns-clause-items
returns-clause-items c =
    let cs = c.loop-self.self.block.list.items in
    sym (take_all c.args.place cs
    (omega (arith, c.loop-self-test.false, c.len.ensures, c.loop-self.self.block.list.ok.0)))
    ∙ c.loop-self.invariant.same
