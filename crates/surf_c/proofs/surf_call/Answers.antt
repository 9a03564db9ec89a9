use Rattle.std.proofs.Common.{◌∙◌, ap, length}
use Rattle.surf_c.specs.Calls.{three}
use Rattle.surf_words.specs.Words.{texts}
use Rattle.surf_text.specs.Text.{words_of}
use Rattle.surf_c.proofs.Telling.{said_of, put_of}
use Rattle.surf_c.proofs.surf_call.Goals as goal

pub returns-in-Ok-answer : goal.returns-in-Ok-answer
returns-in-Ok-answer c =
    let said = c.in-Ok-answer.said in
    let text = c.deref-in-Ok-answer in
    let put = c.put-in-Ok-answer in
    record {
      said = (
        said.text.items,
        said_of (texts c.deref.result.now) (words_of c.args.words.now) (three c.args.first.now c.args.second.now c.args.third.now) said.status
            put.result.status said.text.items (ap texts c.deref.ensures.value ∙ c.in-Ok.ensures.words) put.ensures.status c.in-Ok-answer.ensures.said,
        put.ensures.size ∙ ap length text.ensures.value,
        put_of put.result.size text.result.now said.text.items put.new.room put.ensures.size text.ensures.value put.ensures.put,
      );
    }
