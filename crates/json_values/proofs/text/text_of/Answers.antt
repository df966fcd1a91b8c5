use Rattle.std.proofs.Common.{◌≡◌, sym, ap, ◌∙◌, subst}
use Rattle.serde_json.specs.Data.{Data}
use Rattle.serde_json.specs.View.{view}
use Rattle.serde_json.specs.Written.{has_float}
use Rattle.json_values.specs.Meaning.{Says, IsReadInText}
use Rattle.json_values.specs.Text.{text_value}
use Rattle.json_values.specs.Walk.{words_at}
use Rattle.json_values.proofs.Floats.{no_float}
use Rattle.json_values.proofs.Making.{text_says, text_reads, in_text}
use Rattle.json_values.proofs.text.text_of.Goals as goal

pub returns : goal.returns
returns c =
    let shape = c.args.shape.now in
    let words = c.args.words.now in
    let made : view c.in_ok-value.value ≡ text_value shape words = ap (λ made. made.0) c.in_ok-value.ensures in
    record {
      value = made;
      whole = ap has_float made ∙ no_float shape words;
      says = λ fit distinct. subst (λ (value : Data). Says shape value words) (sym made) (text_says shape words fit distinct);
      read_back = λ fit distinct. ap (words_at shape) made ∙ text_reads shape words fit distinct;
      in_text = λ fit distinct. subst (λ (value : Data). IsReadInText shape value words) (sym made) (in_text shape words fit distinct);
    }
