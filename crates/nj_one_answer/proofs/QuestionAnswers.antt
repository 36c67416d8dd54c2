-- Two answers, whatever is asked.
use Rattle.std.proofs.Common.{[]}
use Rattle.std.specs.Prelude.{unwrap_or}
use Rattle.nj_questions.specs.Questions.{affected, audit, draw, json, keys, stale, tests, timings, why}
use Rattle.nj_ask.specs.Answers.{asked_mark}
use Rattle.nj_one_answer.specs.Answers.{OneAffectedAnswer, OneAnswer, OneAuditAnswer, OneDrawAnswer}
use Rattle.nj_one_answer.specs.Answers.{OneJsonAnswer}
use Rattle.nj_one_answer.specs.Answers.{OneKeysAnswer, OneStaleAnswer, OneTestsAnswer, OneTimesAnswer}
use Rattle.nj_one_answer.specs.Answers.{OneWhyAnswer}

pub one-answer : OneAffectedAnswer → OneAuditAnswer → OneDrawAnswer → OneJsonAnswer → OneKeysAnswer
    → OneStaleAnswer → OneTestsAnswer → OneTimesAnswer → OneWhyAnswer → OneAnswer
one-answer a u d j k s t m w known entries log times folder (affected options) named input output other ending
    end graph tells
    is
    also =
    a known entries times folder options named.since input tells output other ending end is also
one-answer a u d j k s t m w known entries log times folder (audit options) named input output other ending
    end graph tells is
    also =
    u known entries times folder options tells output other ending end is also
one-answer a u d j k s t m w known entries log times folder (draw options) named input output other ending
    end graph tells is
    also =
    d known entries options output other ending end is also
one-answer a u d j k s t m w known entries log times folder json named input output other ending
    end graph tells is
    also =
    j known entries output other ending end is also
one-answer a u d j k s t m w known entries log times folder (keys options) named input output other ending
    end graph tells is
    also =
    k known entries options named.additions (unwrap_or (asked_mark options) []) graph output other ending end
    is also
one-answer a u d j k s t m w known entries log times folder (stale options) named input output other ending
    end graph tells is
    also =
    s known entries log times options graph tells output other ending end is also
one-answer a u d j k s t m w known entries log times folder (tests options) named input output other ending
    end graph tells is also =
    t known entries times folder options named.tests named.since input tells output other ending end is also
one-answer a u d j k s t m w known entries log times folder (timings options) named input output other ending
    end graph tells is also =
    m known entries log times options tells output other ending end is also
one-answer a u d j k s t m w known entries log times folder (why options) named input output other ending
    end graph tells is
    also =
    w known entries options output other ending end is also
