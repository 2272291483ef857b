-- The worked boxes of specs/Worked/Runs.antt, by computation. Assumes nothing.
use mathlib.Core.Path.{refl}
use mathlib.Core.Bool.{xor}
use lib.Ieee.{ofBits, toBits, ofInt, le, lt}
use Rattle·integers.specs.Integers as Integers
use Rattle·integers.specs.Bytes as Bytes
use Rattle·counts.specs.Counts as Counts
use Rattle·numbers.specs.Reals as Reals
use Rattle·numbers.specs.Written as Written
use Rattle·model·specs.specs.Calls as Calls
use Rattle·model·specs.specs.Channel as Channel
use Rattle·model·specs.specs.Errors as Errors
use Rattle·model·specs.specs.Hours as Hours
use Rattle·model·specs.specs.Image as Image
use Rattle·model·specs.specs.Restored as Restored
use Rattle·model·specs.specs.Questions as Questions
use Rattle·model·specs.specs.Reads as Reads
use Rattle·model·specs.specs.Registers as Registers
use Rattle·model·specs.specs.Settings as Settings
use Rattle·model·specs.specs.Tick as Tick
use Rattle·model·specs.specs.Writes as Writes
use Rattle·model·specs.specs.Runs.{ticksOn, gives}
use Rattle·model·specs.specs.Worked.{played}
use Rattle·model·specs.specs.Worked.Runs.{RunBoxes}

pub worked-runs : RunBoxes
unfolding played Calls.cleared Calls.watchdogPreset Calls.step Calls.run Calls.powerUp Calls.powerUpAnswer Calls.stored Channel.acknowledged Channel.changed
    Channel.inputBecomes Channel.takeLevel Channel.simulate Channel.tripped Channel.takeCurrent Channel.takeSample Channel.takeOut Channel.takeControl
    Channel.clearActs Channel.flagRegWritten Channel.outFlagsWritten Channel.chConfigWritten Errors.errorByte Errors.anyBit Errors.serviceByte Errors.anyService
    Errors.comBytes Errors.commonErrorBytes Errors.serviceAcknowledged Image.entryBytes Image.entriesBytes Image.framed Image.summed Image.setupFrom
    Image.version Image.split Image.contents Image.keptBytes Image.keptFrom Image.pairsFrom Image.pairsAllowed Image.keptAllowed Image.countsMatch
    Image.allAllowed Image.moduleAllowed Image.encode Image.entryFrom Image.entriesFrom Image.decode Image.sizeRight Image.countsRight Image.sumRight
    Image.configAllowed Image.moduleConfigAllowed Image.entryAllowed Image.entriesAllowed Image.valuesAllowed Restored.restored Restored.poweredUp
    Questions.readReply Questions.writeReply Questions.sampleReply Questions.lookUpReply Questions.powerUpReply Questions.storeReply Reads.flagReg
    Reads.serviceBytes Reads.digitalBytes Reads.commonBytes Reads.pairsBytes Reads.dataBytes Reads.bytesRead Reads.afterRead Registers.place Settings.functionOf
    Settings.referenceOf Settings.inA Settings.inB Settings.output Tick.saveDue Tick.tickShared Tick.runsOut Tick.tickService Tick.shutDown Tick.offWhileClosed Hours.clockTicked Hours.within Hours.closed Tick.timersRun
    Tick.oneShot Tick.dutyCycle Tick.timerOutput Tick.overloaded Tick.guarded Tick.driven Tick.lookDue Tick.feedbackWrong Tick.looked Tick.operated Tick.found
    Tick.judged Tick.saved Tick.reviewed Tick.dataTimersRun Tick.dataTicked Tick.ticked Writes.sharedWritten Writes.errorsWritten Writes.everyWritten
    Writes.digitalWritten Writes.commonWritten Writes.dataReset Writes.dataWritten Writes.written Integers.modulo Integers.signedBits Integers.wrapped
    Integers.larger Bytes.number Bytes.bytesOf Bytes.signedNumber Bytes.signedBytes Counts.freeRunTick Counts.watchdogTick Counts.outTimerTick
    Counts.feedbackTick Counts.operatingStep Counts.operatingTick Counts.counterStep Counts.isNegative Counts.isPositive Reals.realFrom Reals.realBytes
    Reals.whole Reals.unitsOf Reals.countOf Reals.realOf Written.from Written.below Written.upTo ofBits toBits ofInt le lt Calls.storeAnswer xor gives ticksOn
worked-runs =
    record {
      between-looks = refl;
      at-looks = refl;
      runs = refl;
      written = refl;
      reset = refl;
      refused = refl;
      lost-by-nothing-else = refl;
      no-time-given = refl;
      counted = refl;
      time-given = refl;
      simulated = refl;
      four-quarters = refl;
      many-quarters = refl;
    }
