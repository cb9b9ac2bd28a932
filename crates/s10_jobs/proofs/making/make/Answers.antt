use Rattle.std.proofs.Common.{◌≡◌, ◌∙◌, ap, refl, ◌∷◌, [], ◌++◌}
use Rattle.std.specs.Prelude.{codes}
use Rattle.std.proofs.lemmas.Result.{IfOk-weaker}
use Rattle.s10_core.specs.Serial.{number_of, digits_of, check_digit_of, character_of}
use Rattle.s10_core.proofs.Spellings.{digits_of-number_of_text}
use Rattle.s10_lines.proofs.Writing.{Appends-then}
use Rattle.s10_jobs.specs.Lines.{made_line, refused_line}
use Rattle.s10_jobs.proofs.making.make.Goals as goal

pub returns : goal.returns
returns g c =
    let eight : digits_of c.in-Some-read.serial ≡ c.args.serial.now =
    ap digits_of c.in-Some-read.ensures.1
    ∙ digits_of-number_of_text c.args.serial.now c.in-Some-read.ensures.0 in
    let made : c.write.result ≡ c.args.service.now ++ c.args.serial.now ++ character_of
    (check_digit_of (number_of c.args.serial.now)) ∷ [] ++ c.args.country.now =
    c.write.ensures.spelled ∙ (λ i. c.in-Some.ensures.letters i ++ eight i ++ character_of
    (check_digit_of (c.in-Some-read.ensures.1 i)) ∷ []
    ++ c.in-Some-read_country.ensures.letters i) in (
      made_line c.args.service.now c.args.serial.now c.args.country.now,
      record {
        made = λ service serial country. (refl, refl);
        no_service = λ missing. absurd (missing (c.in-Some.ensures.capitals.0 refl));
        no_serial = λ service missing. absurd (missing c.in-Some-read.ensures.0);
        no_country = λ service serial missing.
            absurd (missing (c.in-Some-read_country.ensures.capitals.0 refl));
      },
      Appends-then _ _ _ _ _ (rw made at c.in_ok-write_text.ensures)
          c.in_ok-write_text-2.ensures,
    )

pub returns-in_default : goal.returns-in_default
returns-in_default g c = IfOk-weaker c.refuse.result _ _ (λ status written. (
  refused_line (codes "service" ∷ []),
  record {
    made = λ service serial country. let no = c.in_default.ensures.capitals.1 service in absurd cc;
    no_service = λ missing. (written.0, refl);
    no_serial = λ service missing. let no = c.in_default.ensures.capitals.1 service in absurd cc;
    no_country = λ service serial missing.
        let no = c.in_default.ensures.capitals.1 service in absurd cc;
  },
  written.1,
)) c.refuse.ensures

pub returns-in_default-read : goal.returns-in_default-read
returns-in_default-read g c = IfOk-weaker c.refuse-in_default-read.result _ _ (λ status written. (
  refused_line (codes "serial" ∷ []),
  record {
    made = λ service serial country. absurd (c.in_default-read.ensures serial);
    no_service = λ missing. absurd (missing (c.in-Some.ensures.capitals.0 refl));
    no_serial = λ service missing. (written.0, refl);
    no_country = λ service serial missing. absurd (c.in_default-read.ensures serial);
  },
  written.1,
)) c.refuse-in_default-read.ensures

pub returns-in_default-read_country : goal.returns-in_default-read_country
returns-in_default-read_country g c = IfOk-weaker c.refuse-in_default-read_country.result _ _
    (λ status written. (
      refused_line (codes "country" ∷ []),
      record {
        made = λ service serial country.
            let no = c.in_default-read_country.ensures.capitals.1 country in absurd cc;
        no_service = λ missing. absurd (missing (c.in-Some.ensures.capitals.0 refl));
        no_serial = λ service missing. absurd (missing c.in-Some-read.ensures.0);
        no_country = λ service serial missing. (written.0, refl);
      },
      written.1,
    )) c.refuse-in_default-read_country.ensures
