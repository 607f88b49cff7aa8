use Rattle.std.proofs.Common.{List, Option, Bor, ℕ, Some, None, ◌≡◌, ◌∙◌, ap, codes, refl, sym, option_map, unwrap_or}
use Rattle.clap.specs.{Words.first_value, Words.found_of, Words.rows_of, declared.parser.matches.Found.Found}
use Rattle.clap.proofs.WalkLemmas.{first_value-rows}
use Rattle.arguments.specs.Arguments.{relation_in}
use Rattle.arguments.proofs.arguments.relation_value.Goals as goal

now-unwrap_or : (o : Option (Bor (List ℕ))) (d : Bor (List ℕ)) →
    unwrap_or (option_map (λ (t : Bor (List ℕ)). t.now) o) d.now ≡ (unwrap_or o d).now
now-unwrap_or (Some t) d = refl
now-unwrap_or None d = refl

-- The function `relation_of` checks the name that `clap` has found for the option `--relation`. If `clap` has found no
-- name, `relation_of` checks the name `strong`.
judged : (found : Found) (got : Option (Bor (List ℕ))) (strong word : Bor (List ℕ))
    → option_map (λ (t : Bor (List ℕ)). t.now) got ≡ first_value found (codes "relation")
    → strong.now ≡ codes "strong" → word ≡ unwrap_or got strong → relation_in (rows_of found) ≡ word.now
judged found got strong word got_is strong_is word_is =
    ap (λ o. unwrap_or o (codes "strong")) (sym (got_is ∙ first_value-rows found (codes "relation")))
    ∙ ap (unwrap_or (option_map (λ t. t.now) got)) (sym strong_is)
    ∙ now-unwrap_or got strong
    ∙ ap (λ t. t.now) (sym word_is)

pub returns : goal.returns
returns c =
    let is = judged (found_of c.args.matches.now) c.get_str.result _ c.unwrap_or.result c.get_str.ensures refl
    c.unwrap_or.ensures in
    record {
      ok = rw is c.relation_of.ensures.ok;
      err = rw is c.relation_of.ensures.err;
    }
