use Rattle.std.proofs.Common.{◌∙◌, List, sym, arith}
use Rattle.std.proofs.lemmas.List.{take_all}
use Rattle.lts.specs.{Lts.Triple, Rows.in_rows}
use Rattle.lts.proofs.StoredRows.{rows-length, rows-more}
use Rattle.lts.proofs.ascending_rows.Rows.triples.Goals as goal

pub loop-k-preserved : goal.loop-k-preserved
loop-k-preserved c = let es : List Triple = in_rows c.self.inside.ends.items c.self.inside.pairs.items in
    let size = rows-length es _ _ c.self.invariant in
    let passed = rw c.deref.ensures.value at c.row_at-source.ensures.passed in
    let here = rw c.deref.ensures.value at c.row_at-source.ensures.here in
    let within = rw c.deref.ensures.value at c.row_at-source.ensures.within in
    record {
      made = rw (c.push_reserved.ensures.items, c.loop-k.invariant.made) (sym (rows-more es _ _ c.self.invariant
          c.row_at-source.result c.loop-k.k _ (omega arith) c.index.ensures passed here within));
      room = omega (arith, c.loop-k.invariant.room, c.push_reserved.ensures.len, c.push_reserved.ensures.capacity);
      passed = λ s h. let low = passed s h in omega arith;
      within = within;
    }

pub returns : goal.returns
returns c = let es : List Triple = in_rows c.self.inside.ends.items c.self.inside.pairs.items in
    let size = rows-length es _ _ c.self.invariant in
    c.loop-k.invariant.made ∙ take_all c.loop-k.k es (omega arith) ∙ c.self.view_is
